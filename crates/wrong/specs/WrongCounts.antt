-- Wrong readers of the counts that the slot record keeps: tries left and the number of protected bytes; when they are asked, what they are taken
-- from, and when they move.
use Rattle.std.specs.Prelude.{ℕ, ◌+◌, ◌-◌, ◌/◌, ◌%◌, Bool, not, List, [], ◌∷◌, take, drop, leb}
use Rattle.words.specs.Choice.{◌⇒◌⁏◌, ◌and◌, ◌or◌, ◌is◌, ◌isnt◌}
use Rattle.words.specs.Bytes.{byte}
use Rattle.bits.specs.Bits.{zeros_of}
use Rattle.codes.specs.Counters.{tries}
use Rattle.chips.specs.declared.Facts.{Facts}
use Rattle.slot.specs.declared.Slot.{Slot}
use Rattle.slot.specs.Slots.{occupied, removed, tries_as, protected_as}
use Rattle.counts.specs.Counts.{tries_in, count_in, tries_of, protected_of}
use Rattle.steps.specs.Steps.{p1p2, p3, body}
use Rattle.sound.specs.Sound.{page_size, empty_sound, idle_sound, type_sound, open_sound, set_sound}
use Rattle.frame.specs.Exchange.{exchange}
use Rattle.wrong.specs.Wrong.{Reader, Inserter, Remover, slotting, stands, card_in, refusing, vetting, upon, doing, at_wrong, at_right, counter_of, upon_insert}

-- ---- number 4
-- soundness, with the counts asked by `asks`; and what it asks of each
abbrev pub sound_by : (Slot → List ℕ → Bool) → Slot → List ℕ → Bool
sound_by asks s image =
    page_size s.page and empty_sound s and idle_sound s and type_sound s and open_sound s image and set_sound s.holds s.set and asks s image

abbrev pub tries_are : Slot → List ℕ → Bool
tries_are s image = s.tries is tries_of s.holds image

abbrev pub protected_are : Slot → List ℕ → Bool
protected_are s image = s.protected is protected_of s.holds image

-- asks tries left alone
abbrev pub asks_tries_alone : Reader
asks_tries_alone = vetting (sound_by tries_are)

-- asks the number of protected bytes alone
abbrev pub asks_protected_alone : Reader
asks_protected_alone = vetting (sound_by protected_are)

-- lets a record through that shows fewer tries than the image has
abbrev pub takes_fewer_tries : Reader
takes_fewer_tries = vetting (sound_by λ s image. leb s.tries (tries_of s.holds image) and protected_are s image)

-- lets a record through that shows more tries than the image has
abbrev pub takes_more_tries : Reader
takes_more_tries = vetting (sound_by λ s image. leb (tries_of s.holds image) s.tries and protected_are s image)

-- lets a record through that shows fewer protected bytes than the image has
abbrev pub takes_fewer_protected : Reader
takes_fewer_protected = vetting (sound_by λ s image. tries_are s image and leb s.protected (protected_of s.holds image))

-- lets a record through that shows more protected bytes than the image has
abbrev pub takes_more_protected : Reader
takes_more_protected = vetting (sound_by λ s image. tries_are s image and leb (protected_of s.holds image) s.protected)

-- compares the low byte of the number of protected bytes alone
abbrev pub compares_low_byte : Reader
compares_low_byte = vetting (sound_by λ s image. tries_are s image and s.protected % 256 is protected_of s.holds image % 256)

-- does not look at the counts of a slot without a card
abbrev pub empty_uncounted : Reader
empty_uncounted = vetting (sound_by λ s image. not (occupied s.holds) or tries_are s image and protected_are s image)

-- does not look at the counts of an I2C card
abbrev pub i2c_uncounted : Reader
i2c_uncounted = vetting (sound_by λ s image. (card_in s.holds).page isnt 0 or tries_are s image and protected_are s image)

-- does not look at the tries of a card without a code
abbrev pub plain_uncounted : Reader
plain_uncounted = vetting (sound_by λ s image. (not (card_in s.holds).coded or tries_are s image) and protected_are s image)

-- asks a card without a code for the tries of the byte at 3FDh
abbrev pub asks_tries_3fd : Reader
asks_tries_3fd = refusing λ s image. (card_in s.holds).kind isnt 21 or s.tries is tries (byte image 0x3FD)

-- ---- what they are taken from
-- the zero bits of n protection bytes
abbrev pub zeros_in : ℕ → Facts → List ℕ → ℕ
zeros_in n f image = zeros_of (take n (drop f.bits image))

-- counts the protected bytes over covered / 8 bytes one short
abbrev pub counts_short : Reader
counts_short = refusing λ s image. let f = card_in s.holds in s.protected is zeros_in (f.covered / 8 - 1) f image

-- counts the protected bytes over covered / 8 bytes one long
abbrev pub counts_long : Reader
counts_long = refusing λ s image. let f = card_in s.holds in s.protected is zeros_in (f.covered / 8 + 1) f image

-- counts the bytes that are not protected
abbrev pub counts_free : Reader
counts_free = refusing λ s image. let f = card_in s.holds in f.covered is 0 or s.protected is (f.covered - count_in f image)

-- counts no protection byte that D1 does not reach whole
abbrev pub counts_reach : Reader
counts_reach = refusing λ s image. let f = card_in s.holds in s.protected is zeros_in (f.reach / 8) f image

-- eight for each byte that is not FFh
unfoldable pub eights : List ℕ → ℕ
eights [] = 0
eights (b ∷ bs) = (b is 0xFF ⇒ 0 ⁏ 8) + eights bs

-- counts a protection byte that is not FFh as eight protected bytes
abbrev pub counts_by_eight : Reader
counts_by_eight = refusing λ s image. let f = card_in s.holds in s.protected is eights (take (f.covered / 8) (drop f.bits image))

-- ---- a code presented
-- shows one try too many after a wrong code: those there were before it
abbrev pub wrong_shows_before : Reader
wrong_shows_before = at_wrong λ f s image d e. stands (tries_as (tries_in f image) e.slot) e

-- shows two tries less after a wrong code
abbrev pub wrong_shows_two_less : Reader
wrong_shows_two_less = at_wrong λ f s image d e. stands (tries_as (tries_in f image - 2) e.slot) e

-- shows no try after a wrong code
abbrev pub wrong_shows_none : Reader
wrong_shows_none = at_wrong λ f s image d e. stands (tries_as 0 e.slot) e

-- shows all tries where the right code met no try
abbrev pub full_at_no_try : Reader
full_at_no_try = at_right λ f s image d e. counter_of f image is 0 ⇒ stands (tries_as (tries f.full) e.slot) e ⁏ e

-- shows the tries there were before a right code
abbrev pub right_shows_before : Reader
right_shows_before = at_right λ f s image d e. stands (tries_as (tries_in f image) e.slot) e

-- shows three tries after a right code, whatever the card
abbrev pub right_shows_three : Reader
right_shows_three = at_right λ f s image d e. stands (tries_as 3 e.slot) e

-- shows the counter for its tries
abbrev pub shows_counter : Reader
shows_counter = doing 0x20 λ f s image d e. stands (tries_as (counter_of f e.image) e.slot) e

-- ---- D1
-- the bytes of the data that equal the stored ones
unfoldable pub equals : List ℕ → ℕ → List ℕ → ℕ
equals image k [] = 0
equals image k (v ∷ vs) = (byte image k is v ⇒ 1 ⁏ 0) + equals image (k + 1) vs

-- D1 leaves this number of protected bytes
abbrev pub protecting_to : (Facts → Slot → List ℕ → List ℕ → ℕ) → Reader
protecting_to count = doing 0xD1 λ f s image d e. stands (protected_as (count f s image d) e.slot) e

-- counts a byte that is protected twice twice
abbrev pub counts_twice : Reader
counts_twice = protecting_to λ f s image d. s.protected + equals image (p1p2 d) (body d)

-- counts every byte of D1's range
abbrev pub counts_range : Reader
counts_range = protecting_to λ f s image d. s.protected + p3 d

-- counts one byte for each D1
abbrev pub counts_one : Reader
counts_one = protecting_to λ f s image d. s.protected + 1

-- does not count what D1 protects
abbrev pub counts_none : Reader
counts_none = protecting_to λ f s image d. s.protected

-- shows what a D1 protected as the number of protected bytes
abbrev pub counts_anew : Reader
counts_anew = protecting_to λ f s image d. equals image (p1p2 d) (body d)

-- keeps the low byte of the number alone
abbrev pub counts_to255 : Reader
counts_to255 s image m room = let o = exchange s image m room in slotting (protected_as (o.slot.protected % 256) o.slot) o

-- ---- messages that change neither
abbrev pub bare : Slot → Slot
bare s = tries_as 0 (protected_as 0 s)

-- shows neither count after a message of this type
abbrev pub type_forgets : ℕ → Reader
type_forgets type = upon type λ s image o. slotting (bare o.slot) o

-- shows neither count after this command
abbrev pub command_forgets : ℕ → Reader
command_forgets ins = doing ins λ f s image d e. stands (bare e.slot) e

-- shows a try more than all after D2
abbrev pub change_shows_more : Reader
change_shows_more = doing 0xD2 λ f s image d e. stands (tries_as (tries f.full + 1) e.slot) e

-- counts the bytes that D0 left different as protected anew
abbrev pub write_counts : Reader
write_counts = doing 0xD0 λ f s image d e. f.page isnt 0 ⇒ e ⁏ stands (protected_as (s.protected + p3 d - equals e.image (p1p2 d) (body d)) e.slot) e

-- takes a try off the screen where a message fails
abbrev pub failure_shows_less : Reader
failure_shows_less s image m room = let o = exchange s image m room in leb 0x40 (byte o.answer 7) ⇒ slotting (tries_as (s.tries - 1) o.slot) o ⁏ o

-- mends the counts of a record that it turns down
abbrev pub down_mends : Reader
down_mends s image m room =
    let o = exchange s image m room in
    o.number is 4 ⇒ slotting (tries_as (tries_of s.holds image) (protected_as (protected_of s.holds image) s)) o
    ⁏ o

-- ---- insertion and removal
-- shows neither count of a card that is put in
abbrev pub insert_shows_none : Inserter
insert_shows_none = upon_insert λ f s o. slotting (bare o.slot) o

-- shows all tries of a card that is put in
abbrev pub insert_shows_all : Inserter
insert_shows_all = upon_insert λ f s o. f.coded ⇒ slotting (tries_as (tries f.full) o.slot) o ⁏ o

-- keeps the counts that the slot had at an insertion
abbrev pub insert_keeps_counts : Inserter
insert_keeps_counts = upon_insert λ f s o. slotting (tries_as s.tries (protected_as s.protected o.slot)) o

-- shows the tries of the byte at 3FDh of a card without a code
abbrev pub insert_shows_3fd : Inserter
insert_shows_3fd = upon_insert λ f s o. f.kind is 21 ⇒ slotting (tries_as (tries (byte o.image 0x3FD)) o.slot) o ⁏ o

-- counts the protected bytes of a card that is put in over covered / 8 bytes one short
abbrev pub insert_counts_short : Inserter
insert_counts_short = upon_insert λ f s o. slotting (protected_as (zeros_in (f.covered / 8 - 1) f o.image) o.slot) o

-- counts the bytes that are not protected of a card that is put in
abbrev pub insert_counts_free : Inserter
insert_counts_free = upon_insert λ f s o. slotting (protected_as (f.covered - count_in f o.image) o.slot) o

-- shows tries left for the number of protected bytes, and the number for tries, of a card that is put in
abbrev pub insert_swaps : Inserter
insert_swaps = upon_insert λ f s o. slotting (tries_as o.slot.protected (protected_as o.slot.tries o.slot)) o

-- keeps the tries shown at a removal
abbrev pub remove_keeps_tries : Remover
remove_keeps_tries s = tries_as s.tries removed

-- keeps the number of protected bytes at a removal
abbrev pub remove_keeps_protected : Remover
remove_keeps_protected s = protected_as s.protected removed

-- the words of these at once, for what is proved by computing them
unfoldable pub count_parts : ℕ
unfolding equals eights
count_parts = 0
