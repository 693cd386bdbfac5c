-- What is read of an image.
use Rattle.std.specs.Prelude.{ℕ, ◌-◌, Bool, List, ◌∷◌, take, drop, replicate}
use Rattle.std.proofs.lemmas.List.Edits.{sets}
use Rattle.words.specs.Choice.{◌⇒◌⁏◌}
use Rattle.words.specs.Bytes.{byte}

-- The image as the host may see it, its code standing at `code` and `digits` long: "3FEh and 3FFh read 00h while closed". Only an
-- SLE4428 has its code in the memory.
unfoldable pub visible : ℕ → ℕ → Bool → List ℕ → List ℕ
visible code digits o image = o ⇒ image ⁏ sets image code (replicate digits 0)

-- "B0: the bytes"
unfoldable pub bytes_read : ℕ → ℕ → Bool → List ℕ → ℕ → ℕ → List ℕ
bytes_read code digits o image at n = take n (drop at (visible code digits o image))

-- "B1: counter, then P3 - 1 bytes 00h"
unfoldable pub counter_read : ℕ → List ℕ → ℕ → List ℕ
counter_read counter image n = byte image counter ∷ replicate (n - 1) 0
