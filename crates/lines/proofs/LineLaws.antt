-- Laws of lines: what is put into a buffer grows by a byte, or by what is put into the part lent behind it; hex grows by two digits a byte.
use mathlib.Core.Path.{◌≡◌, refl, sym, ap, ◌∙◌}
use mathlib.Core.Bool.{Bool, true}
use mathlib.Core.List.{List, [], ◌∷◌, ◌++◌, append_assoc}
use Prim.Native.Nat.{ℕ, ◌+◌, ◌-◌, ◌*◌, ◌/◌, ◌%◌, ◌≤◌, ◌<◌}
use native.Mathlib.Omega.{arith}
use native.Mathlib.Numerals.{add-one}
use lib.ListN.{length, take, drop, set, length-append, length-take}
use lib.Seq.{take-suc}
use borrow.Rule.Slice.PartMut.{put_mid}
use Rattle.words.specs.Bytes.{byte, over}
use Rattle.words.proofs.Lists.{over_lent, over_none, over_two, over_snoc, length_over, length_tail, front_laid}
use Rattle.records.specs.declared.Mark.{Mark}
use Rattle.lines.specs.Lines.{digit_of, hex, word, shows, ending, line, Puts}

-- ---- what is put into a buffer
-- the buffer stays as long
pub puts_length : {b d h : List ℕ} {n : ℕ} → Puts b n d h → length h ≡ length d
puts_length {b} {d} p = ap length p.buffer ∙ length_over b d (omega (arith, p.len, p.fits))

-- and they lie in it
pub puts_fit : {b d h : List ℕ} {n : ℕ} → Puts b n d h → n ≤ length h
puts_fit p = omega (arith, p.fits, puts_length p)

-- at its front
pub puts_front : {b d h : List ℕ} {n : ℕ} → Puts b n d h → take n h ≡ b
puts_front {d = d} p = front_laid d p.len p.buffer

pub puts_is : {b c d h : List ℕ} {n : ℕ} → c ≡ b → Puts b n d h → Puts c n d h
puts_is {d = d} e p = record { len = p.len ∙ sym (ap length e); buffer = p.buffer ∙ ap (λ (t : List ℕ). over t d) (sym e); fits = p.fits }

pub puts_count : {b d h : List ℕ} {n m : ℕ} → m ≡ n → Puts b n d h → Puts b m d h
puts_count e p = record { len = e ∙ p.len; buffer = p.buffer; fits = omega (arith, p.fits) }

-- nothing
pub puts_none : (d : List ℕ) {c : List ℕ} → c ≡ [] → Puts c 0 d d
puts_none d e = puts_is e (record { len = refl; buffer = sym (over_none d); fits = omega arith })

-- bytes that are laid over it
pub puts_laid : (b : List ℕ) {c d h : List ℕ} → length b ≤ length d → c ≡ b → h ≡ over b d → Puts c (length b) d h
puts_laid b l e p = puts_is e (record { len = refl; buffer = p; fits = l })

-- a first byte; a byte more
pub puts_first : (d : List ℕ) (x : ℕ) → 0 < length d → Puts (x ∷ []) 1 d (set d 0 x)
puts_first d x h = record { len = refl; buffer = ap (λ (t : List ℕ). set t 0 x) (sym (over_none d)) ∙ over_snoc [] d x 0 refl h; fits = omega arith }

pub puts_byte : {b d a : List ℕ} {n : ℕ} (x : ℕ) → Puts b n d a → n < length d → Puts (b ++ (x ∷ [])) (n + 1) d (set a n x)
puts_byte {b} {d} {a} {n} x p h = record {
  len = ap (λ (k : ℕ). k + 1) p.len ∙ sym (length-append b (x ∷ []));
  buffer = ap (λ (t : List ℕ). set t n x) p.buffer ∙ over_snoc b d x n (sym p.len) h;
  fits = omega arith;
}

-- what is put into the part that is lent behind it
pub puts_behind : {b c d a y : List ℕ} {n m : ℕ} → Puts b n d a → Puts c m (take (length a - n) (drop n a)) y
    → Puts (b ++ c) (n + m) d (put_mid n (length a - n) a y)
puts_behind {b} {c} {d} {a} {y} {n} {m} p q = record {
  len = omega (arith, p.len, q.len, length-append b c);
  buffer = over_lent n a b c d p.buffer (sym p.len) q.buffer;
  fits = omega (arith, p.fits, q.fits, length_tail n a, puts_length p);
}

-- ---- hex
length_hex : (l : List ℕ) → length (hex l) ≡ 2 * length l
unfolding hex
length_hex [] = refl
length_hex (b ∷ l) = omega (arith, length_hex l)

-- all bytes in hex
pub hex_whole : (l : List ℕ) {d h : List ℕ} {n : ℕ} → n ≡ 2 * length l → n ≤ length d → h ≡ over (hex l) d → Puts (hex l) n d h
hex_whole l e f p = record { len = e ∙ sym (length_hex l); buffer = p; fits = f }

-- how many digits these are
pub hex_puts : (l : List ℕ) {d h : List ℕ} {n : ℕ} → Puts (hex l) n d h → n ≡ 2 * length l
hex_puts l p = p.len ∙ length_hex l

hex_append : (a b : List ℕ) → hex (a ++ b) ≡ hex a ++ hex b
unfolding hex
hex_append [] b = refl
hex_append (x ∷ a) b = ap (λ (t : List ℕ). digit_of (x / 16) ∷ digit_of (x % 16) ∷ t) (hex_append a b)

hex_next : (l : List ℕ) (i : ℕ) → i < length l → hex (take (i + 1) l) ≡ hex (take i l) ++ (digit_of (byte l i / 16) ∷ digit_of (byte l i % 16) ∷ [])
unfolding hex
hex_next l i h = ap hex (ap (λ (k : ℕ). take k l) (add-one i) ∙ take-suc l i 0 h) ∙ hex_append (take i l) (byte l i ∷ [])

-- a loop that writes hex: one turn
pub hex_more : (l d : List ℕ) (i n : ℕ) → i < length l → n ≡ 2 * i → n + 2 ≤ length d
    → set (set (over (hex (take i l)) d) n (digit_of (byte l i / 16))) (n + 1) (digit_of (byte l i % 16)) ≡ over (hex (take (i + 1) l)) d
hex_more l d i n h e k =
    over_two (hex (take i l)) d n _ _ (length_hex (take i l) ∙ omega (arith, length-take i l, h, e)) k
    ∙ ap (λ (t : List ℕ). over t d) (sym (hex_next l i h))

-- ---- a line, part by part
-- a blank and the answer, which is put into the part behind it
pub rest_shown : (an d : List ℕ) {n : ℕ} {y : List ℕ} → 0 < length d
    → Puts (hex an) n (take (length (set d 0 0x20) - 1) (drop 1 (set d 0 0x20))) y
    → Puts (0x20 ∷ hex an) (n + 1) d (put_mid 1 (length (set d 0 0x20) - 1) (set d 0 0x20) y)
rest_shown an d h p = puts_count (omega arith) (puts_behind (puts_first d 0x20 h) p)

-- and the line's end
pub rest_whole : (an : List ℕ) (n : ℕ) {d a : List ℕ} → 2 * length an + 2 ≤ length d → Puts (0x20 ∷ hex an) (n + 1) d a
    → Puts (ending true an) (n + 2) d (set a (n + 1) 0x0A)
rest_whole an n h p = puts_count (omega arith) (puts_byte 0x0A p (omega (arith, p.len, length_hex an)))

-- the word, the number, and what is put into the part behind it
pub line_whole : (mark : Mark) (k : ℕ) (an : List ℕ) {b : Bool} {d a y : List ℕ} {n m : ℕ} → n < length d → Puts (word mark) n d a → b ≡ shows mark k
    → Puts (ending b an) m (take (length (set a n (48 + k)) - (n + 1)) (drop (n + 1) (set a n (48 + k)))) y
    → Puts (line mark k an) (n + 1 + m) d (put_mid (n + 1) (length (set a n (48 + k)) - (n + 1)) (set a n (48 + k)) y)
unfolding line
line_whole mark k an {b} h w e p =
    puts_is (ap (λ (s : Bool). word mark ++ ((48 + k) ∷ ending s an)) (sym e) ∙ sym (append_assoc (word mark) ((48 + k) ∷ []) (ending b an)))
    (puts_behind (puts_byte (48 + k) w h) p)
