-- Which images are a card: number 3 of what is turned down.
use Rattle.std.specs.Prelude.{ℕ, Bool, not, List, length, drop, leb}
use Rattle.words.specs.Choice.{◌and◌, ◌is◌}
use Rattle.words.specs.Bytes.{byte, blank}
use Rattle.chips.specs.declared.Facts.{Facts}
use Rattle.bits.specs.Bits.{is_protected}

-- The length is the kind's, the counter is at most full, the counter's own protection bit is not 0, and the bytes from `zeros` on are 00h.
-- A card without a code has neither counter nor bit; an SLE4442's counter has no bit, and an SLE4428's is never above FFh. Only an
-- SLE4432 has bytes that have to be 00h: "number 3 drops the 3FDh rule for kind 21 and asks the four zero bytes for kind 31".
unfoldable pub is_card : Facts → List ℕ → Bool
is_card f image =
    length image is f.size
    and leb (byte image f.counter) f.full
    and not (is_protected f.bits f.covered image f.counter)
    and blank (drop f.zeros image)
