-- A slot and an image as a reader keeps them: the image is one of the card in the slot, and the record is sound.
use Rattle.std.specs.Prelude.{◌≡◌, true, List, ℕ}
use Rattle.slot.specs.declared.Slot.{Slot}
use Rattle.sound.specs.Sound.{image_is_card, sound}

pub record Proper (s : Slot) (image : List ℕ) : Type 0 where
  pub card : image_is_card s.holds image ≡ true
  pub sound : sound s image ≡ true
