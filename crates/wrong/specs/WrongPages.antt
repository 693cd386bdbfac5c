-- Wrong readers of the page that goes by the card's type, and of the flag that says that command 01 has succeeded since insertion.
use Rattle.std.specs.Prelude.{ℕ, Bool, true, false, not}
use Rattle.words.specs.Choice.{◌⇒◌⁏◌, ◌and◌, ◌or◌, ◌means◌, ◌is◌, ◌isnt◌}
use Rattle.words.specs.Bytes.{byte}
use Rattle.slot.specs.declared.Slot.{Slot}
use Rattle.slot.specs.Slots.{occupied, page_for, removed, page_as, chosen_as}
use Rattle.sound.specs.Sound.{page_size, idle_sound, type_sound, open_sound, set_sound, counts_sound}
use Rattle.steps.specs.Steps.{order}
use Rattle.orders.specs.Orders.{commanded}
use Rattle.frame.specs.Exchange.{exchange}
use Rattle.wrong.specs.Wrong.{Reader, Inserter, Remover, Doer, slotting, stands, card_in, lets, refusing, vetting, upon, commanding, twisted, doing, upon_insert}

-- ---- A4
-- A4 leaves this page
abbrev pub at_select : (Slot → ℕ → ℕ → ℕ) → Doer
at_select page = twisted 0xA4 λ f s image d e. stands (page_as (page s f.selects f.page) e.slot) e

-- forgets at A4 that 01 has succeeded
abbrev pub forgets_choice : Doer
forgets_choice = at_select λ s type chip. page_for type s.page

-- leaves the page at A4, as before
abbrev pub select_leaves : Doer
select_leaves = at_select λ s type chip. s.page

-- sets this page at A4 with this type
abbrev pub select_sets : ℕ → ℕ → Doer
select_sets t p = twisted 0xA4 λ f s image d e. f.selects is t and not s.chosen ⇒ stands (page_as p e.slot) e ⁏ e

-- sets the chip's page at A4
abbrev pub selects_chip_page : Doer
selects_chip_page = at_select λ s type chip. s.chosen ⇒ s.page ⁏ chip

-- sets the page at the first A4 alone, while no type is selected
abbrev pub first_select_only : Doer
first_select_only = twisted 0xA4 λ f s image d e. s.selected is 0 ⇒ e ⁏ stands (page_as s.page e.slot) e

-- a refused A4 sets the page of the card's type
abbrev pub refused_selects : Doer
refused_selects f s image d =
    let e = commanded f s image d in
    byte d 1 is 0xA4 and not (lets (order f s d)) and not s.chosen ⇒ stands (page_as (page_for f.selects s.page) e.slot) e
    ⁏ e

-- ---- 01
-- sets the page at 01 and not the flag
abbrev pub page_unflagged : Doer
page_unflagged = twisted 0x01 λ f s image d e. stands (chosen_as s.chosen e.slot) e

-- takes 03h for the default: 01 with 03h does not set the flag
abbrev pub eight_unflagged : Doer
eight_unflagged = twisted 0x01 λ f s image d e. byte d 5 is 0x03 ⇒ stands (chosen_as s.chosen e.slot) e ⁏ e

-- sets the flag at 01 only where the page becomes another
abbrev pub same_unflagged : Doer
same_unflagged = twisted 0x01 λ f s image d e. e.slot.page is s.page ⇒ stands (chosen_as s.chosen e.slot) e ⁏ e

-- sets the flag at a refused 01
abbrev pub refused_flags : Doer
refused_flags f s image d =
    let e = commanded f s image d in
    byte d 1 is 0x01 and not (lets (order f s d)) ⇒ stands (chosen_as true e.slot) e
    ⁏ e

-- ---- what leaves the flag alone
-- a message of this type clears the flag, or sets it
abbrev pub type_flags : Bool → ℕ → Reader
type_flags b type = upon type λ s image o. slotting (chosen_as b o.slot) o

-- this command clears the flag, or sets it
abbrev pub command_flags : Bool → ℕ → Reader
command_flags b ins = doing ins λ f s image d e. stands (chosen_as b e.slot) e

-- a refused command clears the flag
abbrev pub refusal_clears : Reader
refusal_clears = commanding λ f s image d. let e = commanded f s image d in lets (order f s d) ⇒ e ⁏ stands (chosen_as false e.slot) e

-- a message that fails clears the flag
abbrev pub failure_clears : Reader
failure_clears s image m room = let o = exchange s image m room in byte o.answer 7 is 0x40 ⇒ slotting (chosen_as false o.slot) o ⁏ o

-- clears the flag where a message is turned down
abbrev pub down_clears : Reader
down_clears s image m room = let o = exchange s image m room in o.number is 0 ⇒ o ⁏ slotting (chosen_as false s) o

-- sets the page of the card's type at power on, or off, already
abbrev pub power_pages : ℕ → Reader
power_pages type = upon type λ s image o. s.chosen ⇒ o ⁏ slotting (page_as (page_for (card_in s.holds).selects s.page) o.slot) o

-- ---- number 4
-- lets an empty slot through whose flag is set
abbrev pub empty_chosen : Reader
empty_chosen = vetting λ s image.
    page_size s.page and (occupied s.holds or not s.active and s.page is 8) and idle_sound s and type_sound s and open_sound s image
    and set_sound s.holds s.set and counts_sound s image

-- turns a page down that nobody chose and that is no default
abbrev pub unset_defaults : Reader
unset_defaults = refusing λ s image. s.chosen or s.page is 8 or s.page is 32

-- turns page 8 down where it was chosen
abbrev pub chosen_not8 : Reader
chosen_not8 = refusing λ s image. s.chosen means s.page isnt 8

-- turns page 8 down where nobody chose it and type 02h is selected
abbrev pub large8 : Reader
large8 = refusing λ s image. not s.chosen and s.selected is 0x02 means s.page is 32

-- turns a card without pages down whose flag is set
abbrev pub chosen_paged : Reader
chosen_paged = refusing λ s image. s.chosen means (card_in s.holds).page isnt 0

-- turns an inactive card down whose flag is set
abbrev pub chosen_active : Reader
chosen_active = refusing λ s image. s.chosen means s.active

-- turns a card down with no type whose flag is set
abbrev pub chosen_typed : Reader
chosen_typed = refusing λ s image. s.chosen means s.selected isnt 0

-- ---- insertion and removal
-- keeps the flag that the slot had at an insertion
abbrev pub insert_keeps_flag : Inserter
insert_keeps_flag = upon_insert λ f s o. slotting (chosen_as s.chosen o.slot) o

-- sets the flag at an insertion
abbrev pub insert_flags : Inserter
insert_flags = upon_insert λ f s o. slotting (chosen_as true o.slot) o

-- sets the page of the card's type at its insertion
abbrev pub insert_pages : Inserter
insert_pages = upon_insert λ f s o. slotting (page_as (page_for f.selects 8) o.slot) o

-- keeps the flag at a removal
abbrev pub remove_keeps_flag : Remover
remove_keeps_flag s = chosen_as s.chosen removed

-- sets the flag at a removal
abbrev pub remove_flags : Remover
remove_flags s = chosen_as true removed
