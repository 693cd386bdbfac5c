-- Inputs of the session program, each with the whole output: 01's example, and a row for each rule of its section "Session program".
use Rattle.std.specs.Prelude.{ℕ, ◌+◌, ◌/◌, ◌%◌, List, [], ◌∷◌, ◌++◌, length, replicate}
use Prim.Native.String.{String}
use Rattle.words.specs.Choice.{◌⇒◌⁏◌}
use Rattle.words.specs.Bytes.{same}
use Rattle.lines.specs.Text.{text}
use Rattle.printed.specs.Printed.{printed}

pub record Printout : Type 0 where
  pub input : List ℕ
  pub output : List String

-- lines as bytes, each with its end
unfoldable pub lines : List String → List ℕ
lines [] = []
lines (l ∷ ls) = text l ++ (0x0A ∷ lines ls)

-- the number of the first row that does not hold, the first row being number k; 0 where all hold
unfoldable pub misprinted : ℕ → List Printout → ℕ
misprinted k [] = 0
misprinted k (w ∷ ws) = let later = misprinted (k + 1) ws in same (printed w.input) (lines w.output) ⇒ later ⁏ k

-- ---- the words of the table
infixr 2 ◌gives◌
abbrev pub ◌gives◌ : List ℕ → List String → Printout
input gives output = record { input = input; output = output }

-- a whole record: the mark's two bytes, the length (low byte first), the body
unfoldable pub recorded : ℕ → ℕ → List ℕ → List ℕ
recorded a b body = a ∷ b ∷ length body % 256 ∷ length body / 256 ∷ body

unfoldable pub insert : ℕ → List ℕ → List ℕ
insert kind image = recorded 0x43 0x49 (kind ∷ image)

unfoldable pub remove : List ℕ
remove = recorded 0x43 0x4F []

unfoldable pub message : List ℕ → List ℕ
message m = recorded 0x4F 0x4D m

-- an image of kind 1, of one byte value; and messages to slot 0 with bSeq 0
unfoldable pub image1 : ℕ → List ℕ
image1 b = replicate 128 b

unfoldable pub status : List ℕ
status = message (0x65 ∷ 0 ∷ 0 ∷ 0 ∷ 0 ∷ 0 ∷ 0 ∷ 0 ∷ 0 ∷ 0 ∷ [])

unfoldable pub power_record : List ℕ
power_record = message (0x62 ∷ 0 ∷ 0 ∷ 0 ∷ 0 ∷ 0 ∷ 0 ∷ 0 ∷ 0 ∷ 0 ∷ [])

-- the card's type 01h, three bytes at 0 read, and AB CD EF written there
unfoldable pub select_record : List ℕ
select_record = message (0x6F ∷ 6 ∷ 0 ∷ 0 ∷ 0 ∷ 0 ∷ 0 ∷ 0 ∷ 0 ∷ 0 ∷ 0xFF ∷ 0xA4 ∷ 0x00 ∷ 0x00 ∷ 0x01 ∷ 0x01 ∷ [])

unfoldable pub read3 : List ℕ
read3 = message (0x6F ∷ 5 ∷ 0 ∷ 0 ∷ 0 ∷ 0 ∷ 0 ∷ 0 ∷ 0 ∷ 0 ∷ 0xFF ∷ 0xB0 ∷ 0x00 ∷ 0x00 ∷ 0x03 ∷ [])

unfoldable pub write3 : List ℕ
write3 = message (0x6F ∷ 8 ∷ 0 ∷ 0 ∷ 0 ∷ 0 ∷ 0 ∷ 0 ∷ 0 ∷ 0 ∷ 0xFF ∷ 0xD0 ∷ 0x00 ∷ 0x00 ∷ 0x03 ∷ 0xAB ∷ 0xCD ∷ 0xEF ∷ [])

-- all of them at once, for the theorem that computes the table
unfoldable pub terms : ℕ
unfolding lines recorded insert remove message image1 status power_record select_record read3 write3
terms = 0

-- ---- the table
unfoldable pub rows : List Printout
rows =
    -- 1. the example
    (0x4F ∷ 0x4D ∷ 0x0A ∷ 0x00 ∷ 0x65 ∷ 0x00 ∷ 0x00 ∷ 0x00 ∷ 0x00 ∷ 0x00 ∷ 0x07 ∷ 0x00 ∷ 0x00 ∷ 0x00
    ∷ 0x43 ∷ 0x4F ∷ 0x00 ∷ 0x00
    ∷ 0x4F ∷ 0x4D ∷ 0x01 ∷ 0x00 ∷ 0x65 ∷ [] gives "msg 0 81000000000007020001" ∷ "out 0" ∷ "msg 2" ∷ [])
    -- 2. clean end prints nothing: no input at all; 3. and behind a record
    ∷ ([] gives [])
    ∷ (remove gives "out 0" ∷ [])
    -- 4. it starts with the empty sound slot: no card answers, and one can be put in
    ∷ (status ++ power_record ++ insert 1 (image1 0) gives "msg 0 81000000000000020001" ∷ "msg 0 8000000000000042fe00" ∷ "in 0" ∷ [])
    -- 5. `in K`: 3 for a kind that is unknown, and for an image that is not the kind's; 6. 5 while a card is in
    ∷ (insert 255 (image1 0) ++ insert 1 (replicate 127 0) ++ status gives "in 3" ∷ "in 3" ∷ "msg 0 81000000000000020001" ∷ [])
    ∷ (insert 1 (image1 0) ++ insert 1 (image1 0) ++ insert 255 [] gives "in 0" ∷ "in 5" ∷ "in 5" ∷ [])
    -- 7. an insert with an empty body counts as one of unknown kind
    ∷ (recorded 0x43 0x49 [] ++ insert 1 (image1 0) ++ recorded 0x43 0x49 [] gives "in 3" ∷ "in 0" ∷ "in 5" ∷ [])
    -- 8. 02: kinds 10 and 11 are taken as unknown, and an insert of one leaves the card that is in
    ∷ (insert 10 (image1 0) ++ insert 11 [] ++ insert 1 (image1 0x5A) ++ insert 10 (image1 0) ++ insert 11 (image1 0) ++ power_record ++ select_record ++ read3
    gives "in 3" ∷ "in 3" ∷ "in 0" ∷ "in 5" ∷ "in 5" ∷ "msg 0 800200000000000000003b00" ∷ "msg 0 800200000000000000009000"
    ∷ "msg 0 800500000000000000005a5a5a9000" ∷ [])
    -- 9. `out 0`, with a card and without one
    ∷ (insert 1 (image1 0) ++ remove ++ remove ++ status gives "in 0" ∷ "out 0" ∷ "out 0" ∷ "msg 0 81000000000000020001" ∷ [])
    -- 10. `msg K` alone where the message is turned down: nine bytes, and none
    ∷ (message (0x65 ∷ 0 ∷ 0 ∷ 0 ∷ 0 ∷ 0 ∷ 0 ∷ 0 ∷ 0 ∷ []) ++ message [] gives "msg 2" ∷ "msg 2" ∷ [])
    -- 11. for K = 0 a blank and the answer in lower-case hex; the slot and the image are those that the last record left
    ∷ (insert 1 (image1 0x5A) ++ power_record ++ select_record ++ read3 ++ write3 ++ read3
    gives "in 0" ∷ "msg 0 800200000000000000003b00" ∷ "msg 0 800200000000000000009000" ∷ "msg 0 800500000000000000005a5a5a9000"
    ∷ "msg 0 800200000000000000009000" ∷ "msg 0 80050000000000000000abcdef9000" ∷ [])
    -- 12. an insert that is turned down leaves the card that is in; 13. a removed card's image is gone
    ∷ (insert 1 (image1 0x5A) ++ power_record ++ select_record ++ insert 1 (image1 0x66) ++ read3
    gives "in 0" ∷ "msg 0 800200000000000000003b00" ∷ "msg 0 800200000000000000009000" ∷ "in 5" ∷ "msg 0 800500000000000000005a5a5a9000" ∷ [])
    ∷ (insert 1 (image1 0x5A) ++ remove ++ insert 1 (image1 0x66) ++ power_record ++ select_record ++ read3
    gives "in 0" ∷ "out 0" ∷ "in 0" ∷ "msg 0 800200000000000000003b00" ∷ "msg 0 800200000000000000009000" ∷ "msg 0 800500000000000000006666669000" ∷ [])
    -- 14. two equal records are two
    ∷ (status ++ status gives "msg 0 81000000000000020001" ∷ "msg 0 81000000000000020001" ∷ [])
    -- 15. the length's low byte comes first: a message of 256 bytes, whose dwLength is wrong
    ∷ (0x4F ∷ 0x4D ∷ 0x00 ∷ 0x01 ∷ 0x65 ∷ replicate 255 0 gives "msg 0 81000000000000420101" ∷ [])
    -- 16. to 18. a cut header; 19. and 20. a cut body
    ∷ (remove ++ (0x43 ∷ []) gives "out 0" ∷ "bad" ∷ [])
    ∷ (0x43 ∷ 0x4F ∷ [] gives "bad" ∷ [])
    ∷ (0x43 ∷ 0x4F ∷ 0x00 ∷ [] gives "bad" ∷ [])
    ∷ (status ++ (0x4F ∷ 0x4D ∷ 0x01 ∷ 0x00 ∷ []) gives "msg 0 81000000000000020001" ∷ "bad" ∷ [])
    ∷ (0x4F ∷ 0x4D ∷ 0x02 ∷ 0x00 ∷ 0x65 ∷ [] gives "bad" ∷ [])
    -- 21. another mark; 22. and a mark's bytes the other way round. Nothing is printed after `bad`
    ∷ (0x4F ∷ 0x4E ∷ 0x00 ∷ 0x00 ∷ remove gives "bad" ∷ [])
    ∷ (0x4F ∷ 0x43 ∷ 0x00 ∷ 0x00 ∷ remove gives "bad" ∷ [])
    -- 23. a body of 32,769 bytes is taken; 24. one of 32,770 is not, though it is there, 25. nor where it is not
    ∷ (insert 9 (replicate 32768 0) ++ message (replicate 32769 0) gives "in 0" ∷ "msg 0 81000000000000410001" ∷ [])
    ∷ (insert 9 (replicate 32769 0) ++ remove gives "bad" ∷ [])
    ∷ (remove ++ (0x4F ∷ 0x4D ∷ 0x02 ∷ 0x80 ∷ []) gives "out 0" ∷ "bad" ∷ [])
    -- 26. a remove body that is not empty, and nothing after `bad`
    ∷ (recorded 0x43 0x4F (0 ∷ []) ++ remove gives "bad" ∷ [])
    ∷ []
