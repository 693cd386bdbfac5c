-- D0 on a card with protection bits: the bytes that are not protected are stored, and what is reported of the range.
use Rattle.std.specs.Prelude.{ℕ, ◌+◌, Bool, true, List, [], ◌∷◌, set}
use Rattle.words.specs.Choice.{◌⇒◌⁏◌, ◌and◌, ◌is◌}
use Rattle.words.specs.Bytes.{byte}
use Rattle.bits.specs.Bits.{is_protected}

-- 02: "the reader sends a byte at a time and the chip skips a protected one. Store every unprotected byte of the range and pass over the
-- rest": the bytes vs sent from k on, the protection bytes starting at `bits` with a bit for each of the first `covered` memory bytes
unfoldable pub storing : ℕ → ℕ → List ℕ → ℕ → List ℕ → List ℕ
storing bits covered image k [] = image
storing bits covered image k (v ∷ vs) = storing bits covered (is_protected bits covered image k ⇒ image ⁏ set image k v) (k + 1) vs

-- "whether each byte of the range ended equal to the one sent", of the image afterwards
unfoldable pub ends_equal : List ℕ → ℕ → List ℕ → Bool
ends_equal image k [] = true
ends_equal image k (v ∷ vs) = byte image k is v and ends_equal image (k + 1) vs
