-- What an order says and does: the answer's data and status word, the next image, the next slot record.
use Rattle.std.specs.Prelude.{◌≡◌, ℕ, Bool, false, List, [], ◌∷◌, ◌++◌, length, Result, Ok, Err}
use Rattle.std.proofs.lemmas.List.Edits.{sets}
use Rattle.words.specs.Choice.{◌⇒◌⁏◌, ◌or◌, ◌is◌, ◌isnt◌}
use Rattle.words.specs.Bytes.{byte, over}
use Rattle.chips.specs.declared.Facts.{Facts}
use Rattle.bits.specs.Bits.{carries, protect_equal, packed_bytes}
use Rattle.slot.specs.declared.Slot.{Slot}
use Rattle.slot.specs.Slots.{selecting, paged, opened, closed, tries_as, protected_as}
use Rattle.counts.specs.Counts.{tries_in, count_in}
use Rattle.reads.specs.Reads.{bytes_read, counter_read}
use Rattle.pages.specs.Pages.{page_write}
use Rattle.stores.specs.Stores.{storing, ends_equal}
use Rattle.codes.specs.Codes.{presenting, accepts}
use Rattle.steps.specs.declared.Status.{Status}
use Rattle.steps.specs.declared.Order.{Order}
use Rattle.orders.specs.declared.Told.{Told}
use Rattle.steps.specs.Steps.{word_of, order, body}

-- what a message does to a slot and its image, and the data it answers with
pub record Deed : Type 0 where
  pub said : List ℕ
  pub slot : Slot
  pub image : List ℕ

-- 90 00
abbrev pub done : List ℕ
done = 0x90 ∷ 0x00 ∷ []

-- "20": the image, and whether the card is open
abbrev pub after_code : Facts → List ℕ → List ℕ → List ℕ
after_code f image guess = presenting f.counter f.full f.code f.digits image guess

abbrev pub right_code : Facts → List ℕ → List ℕ → Bool
right_code f image guess = accepts f.counter f.full f.code f.digits image guess

-- D0 sends b from `at` on, the reader page being `page`: "on I2C" in pages; 02: "store every unprotected byte of the range and pass over the
-- rest"
unfoldable pub written : Facts → ℕ → List ℕ → ℕ → List ℕ → List ℕ
written f page image at b = f.page isnt 0 ⇒ page_write page f.page image at at b ⁏ storing f.bits f.covered image at b

-- 02: "when some byte ended different on a card with protection bits the answer is 65 81", of the image afterwards
abbrev pub unequal : List ℕ
unequal = 0x65 ∷ 0x81 ∷ []

abbrev pub reported : Facts → List ℕ → ℕ → List ℕ → Bool
reported f after at b = f.covered is 0 or ends_equal after at b

unfoldable pub written_word : Facts → List ℕ → ℕ → List ℕ → List ℕ
written_word f after at b = reported f after at b ⇒ done ⁏ unequal

-- with b the data after P3: what is said,
unfoldable pub said_by : Facts → Slot → List ℕ → List ℕ → Result Order Status → List ℕ
said_by f s image b (Err status) = word_of status
said_by f s image b (Ok Order.Select) = done
said_by f s image b (Ok (Order.Page p)) = done
said_by f s image b (Ok (Order.Read at n)) = bytes_read f.code f.digits s.«open» image at n ++ done
said_by f s image b (Ok (Order.Counter n)) = counter_read f.counter image n ++ done
said_by f s image b (Ok (Order.Bits at n)) = packed_bytes f.bits f.covered image at n ++ done
said_by f s image b (Ok (Order.Write at)) = written_word f (written f s.page image at b) at b
said_by f s image b (Ok (Order.Protect at)) = done
said_by f s image b (Ok Order.Present) = 0x90 ∷ byte (after_code f image b) f.counter ∷ []
said_by f s image b (Ok Order.Change) = done

-- what the image becomes,
unfoldable pub image_by : Facts → Slot → List ℕ → List ℕ → Result Order Status → List ℕ
image_by f s image b (Err status) = image
image_by f s image b (Ok Order.Select) = image
image_by f s image b (Ok (Order.Page p)) = image
image_by f s image b (Ok (Order.Read at n)) = image
image_by f s image b (Ok (Order.Counter n)) = image
image_by f s image b (Ok (Order.Bits at n)) = image
image_by f s image b (Ok (Order.Write at)) = written f s.page image at b
image_by f s image b (Ok (Order.Protect at)) = protect_equal f.bits f.covered image at b
image_by f s image b (Ok Order.Present) = after_code f image b
image_by f s image b (Ok Order.Change) = sets image f.code b

-- and what the slot record becomes; 02: "have .. code presentation and D1 keep them true", tries left and number of protected bytes
unfoldable pub slot_by : Facts → Slot → List ℕ → List ℕ → Result Order Status → Slot
slot_by f s image b (Err status) = s
slot_by f s image b (Ok Order.Select) = selecting f.selects s
slot_by f s image b (Ok (Order.Page p)) = paged p s
slot_by f s image b (Ok (Order.Read at n)) = s
slot_by f s image b (Ok (Order.Counter n)) = s
slot_by f s image b (Ok (Order.Bits at n)) = s
slot_by f s image b (Ok (Order.Write at)) = s
slot_by f s image b (Ok (Order.Protect at)) = protected_as (count_in f (protect_equal f.bits f.covered image at b)) s
slot_by f s image b (Ok Order.Present) = let counted = tries_as (tries_in f (after_code f image b)) s in right_code f image b ⇒ opened counted ⁏ closed counted
slot_by f s image b (Ok Order.Change) = s

unfoldable pub performed : Facts → Slot → List ℕ → List ℕ → Result Order Status → Deed
performed f s image b o = record { said = said_by f s image b o; slot = slot_by f s image b o; image = image_by f s image b o }

-- a command, from the pseudo-APDU
unfoldable pub commanded : Facts → Slot → List ℕ → List ℕ → Deed
commanded f s image d = performed f s image (body d) (order f s d)

-- What a handler leaves behind, where d is what is to be done: the length of what it said, the next slot, the image as it left it, and
-- the lent buffer, what was said laid over what it held.
pub record Does (d : Deed) (told : Told) (left was holds : List ℕ) : Type 0 where
  pub len : told.len ≡ length d.said
  pub slot : told.slot ≡ d.slot
  pub image : left ≡ d.image
  pub out : holds ≡ over d.said was

-- the order is a D1 that carries byte k's value, b being the data after P3
abbrev pub carries_by : List ℕ → List ℕ → ℕ → Result Order Status → Bool
carries_by image b k (Err status) = false
carries_by image b k (Ok Order.Select) = false
carries_by image b k (Ok (Order.Page p)) = false
carries_by image b k (Ok (Order.Read at n)) = false
carries_by image b k (Ok (Order.Counter n)) = false
carries_by image b k (Ok (Order.Bits at n)) = false
carries_by image b k (Ok (Order.Write at)) = false
carries_by image b k (Ok (Order.Protect at)) = carries at b k (byte image k)
carries_by image b k (Ok Order.Present) = false
carries_by image b k (Ok Order.Change) = false
