-- Laws of storing: what each place of the image then holds, that a run of unprotected bytes is stored whole, and what is reported of the range.
use mathlib.Core.Path.{◌≡◌, refl, sym, ap, ap₂, ◌∙◌}
use mathlib.Core.List.{List, [], ◌∷◌, ◌++◌, append-nil}
use mathlib.Core.Bool.{Bool, true, false, not}
use mathlib.Core.Logic.{◌⊎◌, inl, inr, ◌≢◌}
use Prim.Native.Nat.{ℕ, zero, suc, ◌+◌, ◌-◌, ◌/◌, ◌≤◌, ◌<◌}
use native.Mathlib.Nat.{add-zero}
use native.Mathlib.Numerals.{add-one}
use native.Mathlib.Omega.{arith}
use lib.ListN.{length, take, drop, set, length-set, length-drop, take-append-drop}
use lib.Seq.{sets, length-take-le, drop-cons, drop-drop, drop-length, get_or-drop, get_or-set_same, get_or-set_other}
use lib.Dec.{eqb, leb, ltb}
use borrow.Author.Tests.{eq-eqb, eqb-true, eqb-false, leb-true, leb-false, ltb-true, ltb-false}
use Rattle.words.specs.Choice.{◌⇒◌⁏◌, ◌and◌, ◌is◌}
use Rattle.words.specs.Bytes.{byte, same}
use Rattle.words.proofs.Choices.{either, first, rest, and_holds}
use Rattle.words.proofs.Lists.{byte_sets}
use Rattle.bits.specs.Bits.{is_protected, first_protected}
use Rattle.std.specs.Prelude.{Some, None}
use Rattle.bits.proofs.ProtectionLaws.{Found, first_free, first_found}
use Rattle.bits.proofs.BitLaws.{bit_same, protected_same}
use Rattle.stores.specs.Stores.{storing, ends_equal}

-- ---- the range ends equal
-- one byte of it
ends_step : (l : List ℕ) (at i : ℕ) (vs : List ℕ) → i < length vs
    → ends_equal l (at + i) (drop i vs) ≡ (byte l (at + i) is byte vs i and ends_equal l (at + (i + 1)) (drop (i + 1) vs))
unfolding ends_equal
ends_step l at i vs h =
    let next : at + i + 1 ≡ at + (i + 1) = omega arith in
    ap (ends_equal l (at + i)) (drop-cons vs i 0 h)
    ∙ ap₂ (λ (n m : ℕ). byte l (at + i) is byte vs i and ends_equal l n (drop m vs)) next (sym (add-one i))

-- n bytes that are those sent
ends_run : (n : ℕ) (l : List ℕ) (at i : ℕ) (vs : List ℕ) → i + n ≤ length vs → ((j : ℕ) → i ≤ j → j < i + n → byte l (at + j) ≡ byte vs j)
    → ends_equal l (at + i) (drop i vs) ≡ ends_equal l (at + (i + n)) (drop (i + n) vs)
ends_run zero l at i vs h e = ap (λ (m : ℕ). ends_equal l (at + m) (drop m vs)) (sym (add-zero i))
ends_run (suc n) l at i vs h e =
    let next : i + 1 + n ≡ i + suc n = omega arith in
    ends_step l at i vs (omega arith)
    ∙ sym (and_holds (eq-eqb _ _ (e i (omega arith) (omega arith))) refl)
    ∙ ends_run n l at (i + 1) vs (omega arith) (λ j a b. e j (omega arith) (omega arith))
    ∙ ap (λ (m : ℕ). ends_equal l (at + m) (drop m vs)) next

-- none left
ends_none : (l : List ℕ) (k : ℕ) (vs : List ℕ) → ends_equal l k (drop (length vs) vs) ≡ true
unfolding ends_equal
ends_none l k vs = ap (ends_equal l k) (drop-length vs)

-- it ends equal exactly where it reads back as what was sent
pub ends_back : (l : List ℕ) (k : ℕ) (vs : List ℕ) → k + length vs ≤ length l → ends_equal l k vs ≡ same (take (length vs) (drop k l)) vs
unfolding ends_equal same
ends_back l k [] h = refl
ends_back l k (v ∷ vs) h =
    let next : drop (k + 1) l ≡ drop (suc k) l = ap (λ (n : ℕ). drop n l) (add-one k) in
    ap (λ (b : Bool). byte l k is v and b) (ends_back l (k + 1) vs (omega arith) ∙ ap (λ (t : List ℕ). same (take (length vs) t) vs) next)
    ∙ ap (λ (t : List ℕ). same (take (suc (length vs)) t) (v ∷ vs)) (sym (drop-cons l k 0 (omega arith)))

module _ (bits covered : ℕ) where
  abbrev kept : List ℕ → ℕ → Bool
  kept image j = is_protected bits covered image j

  -- ---- one byte sent
  abbrev sent : List ℕ → ℕ → ℕ → List ℕ
  sent image k v = kept image k ⇒ image ⁏ set image k v

  length_sent : (image : List ℕ) (k v : ℕ) → length (sent image k v) ≡ length image
  length_sent image k v = either (λ (l : List ℕ). length l ≡ length image) _ (λ _. refl) (λ _. length-set image k v)

  sent_other : (image : List ℕ) (k v j : ℕ) → j ≢ k → byte (sent image k v) j ≡ byte image j
  sent_other image k v j ne = either (λ (l : List ℕ). byte l j ≡ byte image j) _ (λ _. refl) (λ _. get_or-set_other image k j v 0 ne)

  -- stores before the protection bytes leave what is protected
  sets_protects : (image : List ℕ) (k : ℕ) (vs : List ℕ) (j : ℕ) → k + length vs ≤ bits → kept (sets image k vs) j ≡ kept image j
  sets_protects image k vs j h =
      protected_same bits covered image (sets image k vs) j (bit_same bits covered image (sets image k vs) j (byte_sets image k vs (bits + j / 8) (inr (omega arith))))

  sent_protects : (image : List ℕ) (k v j : ℕ) → k < bits → kept (sent image k v) j ≡ kept image j
  sent_protects image k v j h = either (λ (l : List ℕ). kept l j ≡ kept image j) _ (λ _. refl) (λ _. sets_protects image k (v ∷ []) j (omega arith))

  -- ---- every place of the image
  pub length_storing : (image : List ℕ) (k : ℕ) (vs : List ℕ) → length (storing bits covered image k vs) ≡ length image
  unfolding storing
  length_storing image k [] = refl
  length_storing image k (v ∷ vs) = length_storing (sent image k v) (k + 1) vs ∙ length_sent image k v

  -- outside the range: as before
  pub byte_outside : (image : List ℕ) (k : ℕ) (vs : List ℕ) (j : ℕ) → (j < k) ⊎ (k + length vs ≤ j) → byte (storing bits covered image k vs) j ≡ byte image j
  unfolding storing
  byte_outside image k [] j h = refl
  byte_outside image k (v ∷ vs) j (inl h) = byte_outside (sent image k v) (k + 1) vs j (inl (omega arith)) ∙ sent_other image k v j (λ e. omega arith)
  byte_outside image k (v ∷ vs) j (inr h) = byte_outside (sent image k v) (k + 1) vs j (inr (omega arith)) ∙ sent_other image k v j (λ e. omega arith)

  -- protected: as before
  pub byte_passed : (image : List ℕ) (k : ℕ) (vs : List ℕ) (j : ℕ) → k + length vs ≤ bits → kept image j ≡ true → byte (storing bits covered image k vs) j ≡ byte image j
  unfolding storing
  byte_passed image k [] j h e = refl
  byte_passed image k (v ∷ vs) j h e =
      byte_passed (sent image k v) (k + 1) vs j (omega arith) (sent_protects image k v j (omega arith) ∙ e) ∙ go (eqb j k) refl
    where
      go : (b : Bool) → eqb j k ≡ b → byte (sent image k v) j ≡ byte image j
      go true q = ap (λ (l : List ℕ). byte l j) (first _ _ (ap (kept image) (sym (eqb-true j k q)) ∙ e))
      go false q = sent_other image k v j (eqb-false j k q)

  -- in the range and not protected: the byte sent
  pub byte_sent : (image : List ℕ) (k : ℕ) (vs : List ℕ) (j : ℕ) → k + length vs ≤ bits → k + length vs ≤ length image → j < length vs → kept image (k + j) ≡ false
      → byte (storing bits covered image k vs) (k + j) ≡ byte vs j
  unfolding storing
  byte_sent image k [] j h w l e = absurd (omega arith)
  byte_sent image k (v ∷ vs) zero h w l e =
      ap (byte (storing bits covered (sent image k v) (k + 1) vs)) (add-zero k)
      ∙ byte_outside (sent image k v) (k + 1) vs k (inl (omega arith))
      ∙ ap (λ (t : List ℕ). byte t k) (rest _ _ (ap (kept image) (sym (add-zero k)) ∙ e))
      ∙ get_or-set_same image k v 0 (omega arith)
  byte_sent image k (v ∷ vs) (suc j) h w l e =
      let q : k + suc j ≡ k + 1 + j = omega arith in
      ap (byte (storing bits covered (sent image k v) (k + 1) vs)) q
      ∙ byte_sent (sent image k v) (k + 1) vs j (omega arith) (omega (arith, length_sent image k v)) (omega arith)
      (sent_protects image k v (k + 1 + j) (omega arith) ∙ ap (kept image) (sym q) ∙ e)

  -- at once: "in the range and not protected, the byte sent; else as before"
  pub byte_storing : (image : List ℕ) (k : ℕ) (vs : List ℕ) (j : ℕ) → k + length vs ≤ bits → k + length vs ≤ length image
      → byte (storing bits covered image k vs) j ≡ (leb k j and ltb j (k + length vs) and not (kept image j) ⇒ byte vs (j - k) ⁏ byte image j)
  unfolding ◌and◌ ◌⇒◌⁏◌
  byte_storing image k vs j h w = go (leb k j) refl (ltb j (k + length vs)) refl (kept image j) refl
    where
      go : (a : Bool) → leb k j ≡ a → (b : Bool) → ltb j (k + length vs) ≡ b → (c : Bool) → kept image j ≡ c
          → byte (storing bits covered image k vs) j ≡ (a and b and not c ⇒ byte vs (j - k) ⁏ byte image j)
      go false p b q c r = byte_outside image k vs j (inl (leb-false k j p))
      go true p false q c r = byte_outside image k vs j (inr (ltb-false j (k + length vs) q))
      go true p true q true r = byte_passed image k vs j h r
      go true p true q false r =
          let e : k + (j - k) ≡ j = omega (arith, leb-true k j p) in
          ap (byte (storing bits covered image k vs)) (sym e)
          ∙ byte_sent image k vs (j - k) h w (omega (arith, leb-true k j p, ltb-true j (k + length vs) q)) (ap (kept image) e ∙ r)

  -- the same of the bytes from the i-th on
  sent_from : (image : List ℕ) (at i : ℕ) (vs : List ℕ) (j : ℕ) → at + length vs ≤ bits → at + length vs ≤ length image → i ≤ j → j < length vs → kept image (at + j) ≡ false
      → byte (storing bits covered image (at + i) (drop i vs)) (at + j) ≡ byte vs j
  sent_from image at i vs j h w a b e =
      let to : at + j ≡ at + i + (j - i) = omega arith in
      let same : i + (j - i) ≡ j = omega arith in
      ap (byte (storing bits covered image (at + i) (drop i vs))) to
      ∙ byte_sent image (at + i) (drop i vs) (j - i) (omega (arith, length-drop i vs)) (omega (arith, length-drop i vs)) (omega (arith, length-drop i vs))
      (ap (kept image) (sym to) ∙ e)
      ∙ get_or-drop i vs (j - i) 0
      ∙ ap (byte vs) same

  -- ---- a run of unprotected bytes is stored whole
  run_stored : (image : List ℕ) (k : ℕ) (vs ws : List ℕ) → k + length vs ≤ bits → ((j : ℕ) → k ≤ j → j < k + length vs → kept image j ≡ false)
      → storing bits covered image k (vs ++ ws) ≡ storing bits covered (sets image k vs) (k + length vs) ws
  unfolding storing
  run_stored image k [] ws h free = ap (λ (n : ℕ). storing bits covered image n ws) (sym (add-zero k))
  run_stored image k (v ∷ vs) ws h free =
      let next : k + 1 + length vs ≡ k + length (v ∷ vs) = omega arith in
      ap (λ (l : List ℕ). storing bits covered l (k + 1) (vs ++ ws)) (rest _ _ (free k (omega arith) (omega arith)))
      ∙ run_stored (set image k v) (k + 1) vs ws (omega arith) (λ j a b. sets_protects image k (v ∷ []) j (omega arith) ∙ free j (omega arith) (omega arith))
      ∙ ap₂ (λ (a n : ℕ). storing bits covered (sets (set image k v) a vs) n ws) (add-one k) next

  -- a protected byte is passed over
  passed_over : (image : List ℕ) (at i : ℕ) (vs : List ℕ) → i < length vs → kept image (at + i) ≡ true
      → storing bits covered image (at + i) (drop i vs) ≡ storing bits covered image (at + (i + 1)) (drop (i + 1) vs)
  unfolding storing
  passed_over image at i vs h e =
      let next : at + i + 1 ≡ at + (i + 1) = omega arith in
      ap (storing bits covered image (at + i)) (drop-cons vs i 0 h)
      ∙ ap (λ (l : List ℕ). storing bits covered l (at + i + 1) (drop (suc i) vs)) (first _ _ e)
      ∙ ap₂ (λ (n m : ℕ). storing bits covered image n (drop m vs)) next (sym (add-one i))

  -- ---- the search found a protected byte: its run is stored and it is passed over, i bytes having been sent before
  module _ (image : List ℕ) (at i k : ℕ) (vs : List ℕ) (h : at + length vs ≤ bits) (w : i ≤ length vs)
      (e : first_protected bits covered image (at + i) (length vs - i) ≡ Some k) where
    abbrev end : ℕ
    end = k - at

    abbrev run : List ℕ
    run = take (end - i) (drop i vs)

    abbrev after : List ℕ
    after = sets image (at + i) run

    found : Found bits covered image (at + i) (length vs - i) k
    found = first_found bits covered image (at + i) (length vs - i) k e

    pub found_place : (at + i ≤ k) × (k < at + length vs)
    found_place = (found.from, omega (arith, found.within))

    pub run_long : length run ≡ end - i
    run_long = length-take-le (end - i) (drop i vs) (omega (arith, length-drop i vs, found_place.0, found_place.1))

    at_end : at + end ≡ k
    at_end = omega (arith, found_place.0)

    pub turn_stored : storing bits covered image (at + i) (drop i vs) ≡ storing bits covered after (at + (end + 1)) (drop (end + 1) vs)
    turn_stored =
        let till : i + (end - i) ≡ end = omega (arith, found_place.0) in
        let parts : drop i vs ≡ run ++ drop end vs =
        sym (take-append-drop (end - i) (drop i vs)) ∙ ap (λ (l : List ℕ). run ++ l) (drop-drop (end - i) i vs ∙ ap (λ (n : ℕ). drop n vs) till) in
        let to : at + i + length run ≡ at + end = omega (arith, run_long, found_place.0) in
        ap (storing bits covered image (at + i)) parts
        ∙ run_stored image (at + i) run (drop end vs) (omega (arith, run_long, found_place.0, found_place.1))
        (λ j a b. found.before j a (omega (arith, run_long, found_place.0)))
        ∙ ap (λ (n : ℕ). storing bits covered after n (drop end vs)) to
        ∙ passed_over after at end vs (omega (arith, found_place.0, found_place.1))
        (sets_protects image (at + i) run (at + end) (omega (arith, run_long, found_place.0, found_place.1)) ∙ ap (kept image) at_end ∙ found.here)

    -- so the bytes of the run end equal, and the protected one where it is equal already
    pub turn_ends : at + length vs ≤ length image → let l = storing bits covered image (at + i) (drop i vs) in
        ends_equal l (at + i) (drop i vs) ≡ (byte after k is byte vs end and ends_equal l (at + (end + 1)) (drop (end + 1) vs))
    turn_ends inside =
        let l : List ℕ = storing bits covered image (at + i) (drop i vs) in
        let till : i + (end - i) ≡ end = omega (arith, found_place.0) in
        let here : byte l (at + end) ≡ byte after k =
        ap (byte l) at_end
        ∙ byte_passed image (at + i) (drop i vs) k (omega (arith, length-drop i vs)) found.here
        ∙ sym (byte_sets image (at + i) run k (inr (omega (arith, run_long, found_place.0)))) in
        ends_run (end - i) l at i vs (omega (arith, found_place.0, found_place.1))
        (λ j a b. sent_from image at i vs j h inside a (omega (arith, found_place.0, found_place.1))
        (found.before (at + j) (omega arith) (omega (arith, found_place.0))))
        ∙ ap (λ (n : ℕ). ends_equal l (at + n) (drop n vs)) till
        ∙ ends_step l at end vs (omega (arith, found_place.0, found_place.1))
        ∙ ap (λ (x : ℕ). x is byte vs end and ends_equal l (at + (end + 1)) (drop (end + 1) vs)) here

  -- ---- it found none: what is left is stored, and ends equal
  module _ (image : List ℕ) (at i : ℕ) (vs : List ℕ) (h : at + length vs ≤ bits) (w : i ≤ length vs)
      (e : first_protected bits covered image (at + i) (length vs - i) ≡ None) where
    pub rest_stored : storing bits covered image (at + i) (drop i vs) ≡ sets image (at + i) (drop i vs)
    unfolding storing
    rest_stored =
        let long : length (drop i vs) ≡ length vs - i = length-drop i vs in
        ap (storing bits covered image (at + i)) (sym (append-nil (drop i vs)))
        ∙ run_stored image (at + i) (drop i vs) [] (omega (arith, long)) (λ j a b. first_free bits covered image (at + i) (length vs - i) j e a (omega (arith, long)))

    pub rest_ends : at + length vs ≤ length image → ends_equal (storing bits covered image (at + i) (drop i vs)) (at + i) (drop i vs) ≡ true
    rest_ends inside =
        let l : List ℕ = storing bits covered image (at + i) (drop i vs) in
        let all : i + (length vs - i) ≡ length vs = omega arith in
        ends_run (length vs - i) l at i vs (omega arith)
        (λ j a b. sent_from image at i vs j h inside a (omega arith) (first_free bits covered image (at + i) (length vs - i) (at + j) e (omega arith) (omega arith)))
        ∙ ap (λ (n : ℕ). ends_equal l (at + n) (drop n vs)) all
        ∙ ends_none l (at + length vs) vs
