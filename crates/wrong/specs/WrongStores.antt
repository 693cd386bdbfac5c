-- Wrong readers of D0 on the four kinds that have protection bits: whether it is let through, what it stores, what is reported of it, and what the
-- report does.
use Rattle.std.specs.Prelude.{ℕ, zero, suc, ◌+◌, ◌-◌, ◌%◌, Bool, true, false, not, List, [], ◌∷◌, length, set, leb, ltb, Option, Some, None}
use Rattle.std.proofs.lemmas.List.Edits.{sets}
use Rattle.words.specs.Choice.{◌⇒◌⁏◌, ◌and◌, ◌or◌, ◌is◌, ◌isnt◌}
use Rattle.words.specs.Bytes.{byte, same}
use Rattle.bits.specs.Bits.{is_protected, first_protected}
use Rattle.stores.specs.Stores.{storing, ends_equal}
use Rattle.codes.specs.Codes.{spending}
use Rattle.chips.specs.declared.Facts.{Facts}
use Rattle.slot.specs.Slots.{closed}
use Rattle.steps.specs.declared.Status.{Status}
use Rattle.steps.specs.Steps.{p1p2, p3, body}
use Rattle.orders.specs.Orders.{done, unequal, written_word}
use Rattle.wrong.specs.Wrong.{recounts, Reader, Twist, marking, tells, stands, leaves, upon, barring, doing}
use Rattle.wrong.specs.WrongPlain.{freed}

-- byte k is protected; one of n bytes from `at` on is
abbrev pub kept : Facts → List ℕ → ℕ → Bool
kept f image k = is_protected f.bits f.covered image k

abbrev pub found : Option ℕ → Bool
found (Some k) = true
found None = false

abbrev pub some_kept : Facts → List ℕ → ℕ → ℕ → Bool
some_kept f image at n = found (first_protected f.bits f.covered image at n)

-- ---- let through
-- asks step 10: refuses the whole write where a byte of the range is protected
abbrev pub asks_step10 : Reader
asks_step10 = barring Status.Denied λ f s image d. byte d 1 is 0xD0 and some_kept f image (p1p2 d) (p3 d)

-- refuses D1 over a protected byte
abbrev pub protects_once : Reader
protects_once = barring Status.Denied λ f s image d. byte d 1 is 0xD1 and some_kept f image (p1p2 d) (p3 d)

-- ---- our reader with one part put wrong (proofs/Parts)
-- what a card without pages stores is `store`, of the image, the address and the bytes; the report is of that
unfoldable pub storing_by : (Facts → List ℕ → ℕ → List ℕ → List ℕ) → Reader
storing_by store = doing 0xD0 λ f s image d e.
    let after = store f image (p1p2 d) (body d) in
    f.page isnt 0 ⇒ e
    ⁏ tells (written_word f after (p1p2 d) (body d)) (leaves after e)

-- the report is `report`, of the image before and after, the address and the bytes
unfoldable pub reporting_by : (Facts → List ℕ → List ℕ → ℕ → List ℕ → Bool) → Reader
reporting_by report = doing 0xD0 λ f s image d e. tells (report f image e.image (p1p2 d) (body d) ⇒ done ⁏ unequal) e

-- a D0 that says 65 81 does something else
unfoldable pub at_unequal : Twist → Reader
at_unequal twist = doing 0xD0 λ f s image d e. same e.said unequal ⇒ twist f s image d e ⁏ e

-- ---- what is stored
-- the bytes but at the places that are passed over
unfoldable pub store_but : (ℕ → Bool) → List ℕ → ℕ → List ℕ → List ℕ
store_but passes image k [] = image
store_but passes image k (v ∷ vs) = store_but passes (passes k ⇒ image ⁏ set image k v) (k + 1) vs

-- stores over protected bytes
abbrev pub stores_kept : Reader
stores_kept = storing_by λ f image at b. sets image at b

-- stores over the protected bytes of a card without a code
abbrev pub stores_kept_plain : Reader
stores_kept_plain = storing_by λ f image at b. f.coded ⇒ storing f.bits f.covered image at b ⁏ sets image at b

-- does not honour the protection of 3FDh to 3FFh on kind 21
abbrev pub stores_kept_3fd : Reader
stores_kept_3fd = storing_by λ f image at b. store_but (λ k. kept f image k and (f.kind isnt 21 or ltb k 0x3FD)) image at b

-- does not honour the protection of a 4428's code
abbrev pub stores_kept_code : Reader
stores_kept_code = storing_by λ f image at b. store_but (λ k. kept f image k and (f.kind isnt 20 or ltb k f.code)) image at b

-- looks at the protection of the first byte alone
abbrev pub looks_at_first : Reader
looks_at_first = storing_by λ f image at b. store_but (λ k. k is at and kept f image k) image at b

-- does not look at the protection of the last byte
abbrev pub misses_last : Reader
misses_last = storing_by λ f image at b. store_but (λ k. kept f image k and ltb (k + 1) (at + length b)) image at b

-- skips the byte after a protected one too
abbrev pub skips_next : Reader
skips_next = storing_by λ f image at b. store_but (λ k. kept f image k or ltb at k and kept f image (k - 1)) image at b

-- skips the byte before a protected one too
abbrev pub skips_before : Reader
skips_before = storing_by λ f image at b. store_but (λ k. kept f image k or ltb (k + 1) (at + length b) and kept f image (k + 1)) image at b

-- stops storing at the first protected byte
abbrev pub stops_at_kept : Reader
stops_at_kept = storing_by λ f image at b. store_but (λ k. some_kept f image at (k + 1 - at)) image at b

-- stores nothing where a byte of the range is protected
abbrev pub stores_none : Reader
stores_none = storing_by λ f image at b. some_kept f image at (length b) ⇒ image ⁏ sets image at b

-- takes a protection bit of 1 for protected
abbrev pub ones_protect : Reader
ones_protect = storing_by λ f image at b. store_but (λ k. ltb k f.covered and not (kept f image k)) image at b

-- goes by the bits round: a byte past those that have one by the bit of another
abbrev pub bits_round : Reader
bits_round = storing_by λ f image at b. store_but (λ k. kept f image (k % f.covered)) image at b

-- passes over the bytes that have no bit
abbrev pub passes_bare : Reader
passes_bare = storing_by λ f image at b. store_but (λ k. leb f.covered k or kept f image k) image at b

unfoldable pub sliding : (ℕ → Bool) → List ℕ → ℕ → ℕ → List ℕ → List ℕ
sliding passes image k zero vs = image
sliding passes image k (suc n) [] = image
sliding passes image k (suc n) (v ∷ vs) =
    let held = sliding passes image (k + 1) n (v ∷ vs) in
    let on = sliding passes (set image k v) (k + 1) n vs in
    passes k ⇒ held ⁏ on

-- stores the byte for a protected place in the next one
abbrev pub slides : Reader
slides = storing_by λ f image at b. sliding (kept f image) image at (length b) b

-- ---- what is reported
-- says 90 00 for every write
abbrev pub reports_done : Reader
reports_done = reporting_by λ f before after at b. true

-- says 65 81 for every write on a card with protection bits
abbrev pub reports_unequal : Reader
reports_unequal = reporting_by λ f before after at b. f.covered is 0

-- reports of the first byte alone
abbrev pub reports_first : Reader
reports_first = reporting_by λ f before after at b. f.covered is 0 or byte after at is byte b 0

-- reports of the last byte alone
abbrev pub reports_last : Reader
reports_last = reporting_by λ f before after at b. f.covered is 0 or byte after (at + length b - 1) is byte b (length b - 1)

unfoldable pub some_equal : List ℕ → ℕ → List ℕ → Bool
some_equal image k [] = false
some_equal image k (v ∷ vs) = byte image k is v or some_equal image (k + 1) vs

-- says 90 00 where some byte of the range ended equal
abbrev pub reports_some : Reader
reports_some = reporting_by λ f before after at b. f.covered is 0 or some_equal after at b

-- says 65 81 for a protected byte that equals
abbrev pub reports_kept : Reader
reports_kept = reporting_by λ f before after at b. f.covered is 0 or not (some_kept f before at (length b))

-- compares before it stores
abbrev pub reports_before : Reader
reports_before = reporting_by λ f before after at b. f.covered is 0 or ends_equal before at b

-- reports of an I2C card too: 65 81 where a page ran round
abbrev pub reports_pages : Reader
reports_pages = reporting_by λ f before after at b. ends_equal after at b

-- says 65 81 for every write on an I2C card
abbrev pub pages_unequal : Reader
pages_unequal = reporting_by λ f before after at b. f.covered isnt 0 and ends_equal after at b

-- ---- what the report does
-- says another word in place of 65 81
abbrev pub rewords_unequal : List ℕ → Reader
rewords_unequal word = at_unequal λ f s image d e. tells word e

-- closes the card at 65 81
abbrev pub unequal_closes : Reader
unequal_closes = at_unequal λ f s image d e. stands (closed s) e

-- burns a try at 65 81
abbrev pub unequal_burns : Reader
unequal_burns = at_unequal λ f s image d e. recounts (leaves (spending f.counter e.image) e)

-- frees every byte at 65 81
abbrev pub unequal_frees : Reader
unequal_frees = at_unequal λ f s image d e. recounts (leaves (freed f e.image) e)

-- tells 65 81 as a failed message
abbrev pub unequal_fails : Reader
unequal_fails = upon 0x6F λ s image o. byte o.answer (length o.answer - 2) is 0x65 ⇒ marking 7 (0x40 + byte o.answer 7) o ⁏ o

-- all of these at once, for what is proved by computing them
unfoldable pub store_parts : ℕ
unfolding storing_by reporting_by at_unequal store_but sliding some_equal
store_parts = 0
