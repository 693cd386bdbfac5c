-- Wrong readers of the large I2C cards: the top bit of a 17-bit address, B1 and D1 on I2C cards, where a range ends, chip pages, rows of the table.
use Rattle.std.specs.Prelude.{ℕ, ◌+◌, ◌-◌, ◌%◌, Bool, List, ◌++◌, take, drop, leb, ltb, Ok, Err}
use Rattle.std.proofs.lemmas.List.Edits.{sets}
use Rattle.words.specs.Choice.{◌⇒◌⁏◌, ◌and◌, ◌or◌, ◌is◌, ◌isnt◌}
use Rattle.words.specs.Bytes.{byte, series}
use Rattle.words.specs.Bounds.{addresses}
use Rattle.chips.specs.declared.Facts.{Facts}
use Rattle.chips.specs.Kinds.{facts}
use Rattle.pages.specs.Pages.{page_write}
use Rattle.steps.specs.declared.Status.{Status}
use Rattle.steps.specs.declared.Order.{Order}
use Rattle.steps.specs.declared.Ins.TheVariants.{Read, Write}
use Rattle.steps.specs.Steps.{p1p2, p3, body, seventeen, range_test, order}
use Rattle.orders.specs.Orders.{done, commanded}
use Rattle.wrong.specs.Wrong.{Doer, Teller, tells, leaves, ordered_by, placed_by, place_in, ins, address, lets, twisted}
use Rattle.wrong.specs.WrongCommands.{paged_by}

-- ---- the top bit
-- drops the top bit: B1 and D1 act where B0 and D0 do
abbrev pub drops_top : Doer
drops_top = placed_by ins λ f d. range_test f (ins f d) (p1p2 d) (p3 d)

-- gives this INS the top bit too
abbrev pub raises : ℕ → Doer
raises i = placed_by ins λ f d. byte d 1 is i and seventeen f ⇒ range_test f (ins f d) (addresses + p1p2 d) (p3 d) ⁏ place_in f d

-- reads on at 00000h behind 0FFFFh
abbrev pub reads_round : Doer
reads_round = twisted 0xB0 λ f s image d e. seventeen f ⇒ tells (series (λ (k : ℕ). byte image (k % addresses)) (p1p2 d) (p3 d) ++ done) e ⁏ e

-- writes on at 00000h behind 0FFFFh
abbrev pub writes_round : Doer
writes_round = twisted 0xD0 λ f s image d e.
    let front = addresses - p1p2 d in
    seventeen f ⇒ leaves (sets (sets image (p1p2 d) (take front (body d))) 0 (drop front (body d))) e
    ⁏ e

-- ---- B1 and D1 on I2C cards
-- takes B1 for B0 on this kind too
abbrev pub takes_b1 : ℕ → Doer
takes_b1 k = placed_by (λ f d. b1 f d ⇒ Read ⁏ ins f d) (λ f d. b1 f d ⇒ range_test f Read (p1p2 d) (p3 d) ⁏ place_in f d)
  where
    b1 : Facts → List ℕ → Bool
    b1 f d = f.kind is k and byte d 1 is 0xB1

-- takes D1 for D0 on this kind too
abbrev pub takes_d1 : ℕ → Doer
takes_d1 k = placed_by (λ f d. d1 f d ⇒ Write ⁏ ins f d) (λ f d. d1 f d ⇒ range_test f Write (p1p2 d) (p3 d) ⁏ place_in f d)
  where
    d1 : Facts → List ℕ → Bool
    d1 f d = f.kind is k and byte d 1 is 0xD1

-- knows B1 on this kind, and finds every place of it past the end: 6B 00
abbrev pub knows_b1 : ℕ → Doer
knows_b1 k = ordered_by λ f s image d. f.kind is k and byte d 1 is 0xB1 ⇒ Err Status.Place ⁏ order f s d

-- has no B1 and no D1 on any I2C card
abbrev pub drops_both : Doer
drops_both = ordered_by λ f s image d. f.page isnt 0 and (byte d 1 is 0xB1 or byte d 1 is 0xD1) ⇒ Err Status.Instruction ⁏ order f s d

-- asks of B1 there the P3 that a counter has (step 6)
abbrev pub counter_length : Doer
counter_length = ordered_by λ f s image d.
    byte d 1 is 0xB1 and lets (order f s d) and p3 d isnt (f.digits + 1) ⇒ Err Status.Length
    ⁏ order f s d

-- asks of B1 there that P1P2 is 0000h (step 7)
abbrev pub counter_place : Doer
counter_place = ordered_by λ f s image d.
    byte d 1 is 0xB1 and lets (order f s d) and p1p2 d isnt 0 ⇒ Err Status.Place
    ⁏ order f s d

-- asks of D1 there that it keeps to bytes that have a bit (step 7)
abbrev pub protect_place : Doer
protect_place = ordered_by λ f s image d.
    byte d 1 is 0xD1 and lets (order f s d) and ltb f.reach (address f d + p3 d) ⇒ Err Status.Place
    ⁏ order f s d

-- passes over bytes behind B1's P3
abbrev pub reads_top_with_data : Doer
reads_top_with_data f s image d = commanded f s image (byte d 1 is 0xB1 ⇒ take 5 d ⁏ d)

-- stores nothing at D1 there, as D1 stores nothing elsewhere
abbrev pub stores_no_top : Doer
stores_no_top = twisted 0xD1 λ f s image d e. seventeen f ⇒ leaves image e ⁏ e

-- ---- where a range ends
-- ends every range at 10000h
abbrev pub ends_at_64k : Doer
ends_at_64k = placed_by ins λ f d. ltb addresses (address f d + p3 d) ⇒ Err Status.Place ⁏ place_in f d

-- ends the ranges of B0 and D0 at 10000h
abbrev pub ends_first_half : Doer
ends_first_half = placed_by ins λ f d.
    (byte d 1 is 0xB0 or byte d 1 is 0xD0) and ltb addresses (p1p2 d + p3 d) ⇒ Err Status.Place
    ⁏ place_in f d

-- adds up the address of a write and P3 in so many addresses: what passes their end begins anew, and is taken
abbrev pub sums_in : ℕ → Doer
sums_in n = placed_by ins λ f d.
    f.page isnt 0 and (byte d 1 is 0xD0 or byte d 1 is 0xD1) and leb ((address f d + p3 d) % n) f.memory ⇒ Ok (address f d)
    ⁏ place_in f d

-- ---- chip pages
-- takes this kind's chip page for another
abbrev pub chip_page : ℕ → ℕ → Doer
chip_page k page = paged_by λ f s image at vs. page_write s.page (f.kind is k ⇒ page ⁏ f.page) image at at vs

-- ---- the table of cards
-- a row with another chip page
abbrev pub row_page : ℕ → Teller
row_page page chip = row (facts chip)
  where
    row : Facts → Facts
    row f = record {
      kind = f.kind;
      size = f.size;
      memory = f.memory;
      page = page;
      selects = f.selects;
      coded = f.coded;
      full = f.full;
      counter = f.counter;
      code = f.code;
      digits = f.digits;
      bits = f.bits;
      covered = f.covered;
      reach = f.reach;
      zeros = f.zeros;
    }
