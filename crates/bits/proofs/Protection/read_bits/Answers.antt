use mathlib.Core.Path.{◌≡◌, sym, ap, ap₂, ◌∙◌}
use native.Mathlib.Omega.{arith}
use Prim.Native.Nat.{ℕ, ◌+◌, ◌-◌, ◌*◌, ◌/◌, ◌%◌, ◌^◌}
use lib.ListN.{take, drop, set}
use lib.Seq.{sets}
use mathlib.Core.List.{List}
use Rattle.words.specs.Bytes.{byte, over, series, eight_at, low_first}
use Rattle.words.proofs.Lists.{series_next, over_none}
use Rattle.bits.specs.Bits.{packed, packed_bytes}
use Rattle.bits.proofs.PackLaws.{packed_made, packed_eight_more, packed_whole}
use Rattle.bits.proofs.Protection.read_bits.Goals as goal

pub returns-then-shift-eq0 : goal.returns-then-shift-eq0
returns-then-shift-eq0 c =
    let a = c.args in
    let from : ℕ = a.self.bits + a.at / 8 in
    let e : from + a.n - from ≡ a.n = omega arith in
    c.lay.ensures
    ∙ ap (λ (m : ℕ). over (take m (drop from a.image.now)) a.out.now) e
    ∙ ap (λ (l : List ℕ). over l a.out.now)
    (packed_whole a.self.bits a.self.covered a.image.now a.at a.n c.if-shift-eq0.true (omega arith) (omega arith)
    (λ k. omega (arith, c.type_inv.image k)))

pub loop-i-init : goal.loop-i-init
unfolding series
loop-i-init c = sym (over_none _)

pub loop-i-preserved : goal.loop-i-preserved
loop-i-preserved c =
    let a = c.args in
    let l = c.loop-i in
    let j : ℕ = 8 * l.i in
    let f : ℕ → ℕ = λ k. packed a.self.bits a.self.covered a.image.now (a.at + 8 * k) 8 in
    let made : c.shifted.result ≡ (eight_at a.image.now (a.self.bits + a.at / 8 + j) + 256 ^ 8 * byte a.image.now (a.self.bits + a.at / 8 + j + 8)) / 2 ^ (a.at % 8) % 256 ^ 8 =
    c.shifted.ensures ∙ ap₂ (λ (x y : ℕ). (x + 256 ^ 8 * y) / 2 ^ (a.at % 8) % 256 ^ 8) c.eight_at-low.ensures c.wide-high.ensures.0 in
    let next : j + 8 ≡ 8 * (l.i + 1) = omega arith in
    c.put_eight.ensures
    ∙ ap₂ (λ (t : List ℕ) (v : ℕ). sets t j (low_first 7 v)) l.invariant made
    ∙ packed_eight_more a.self.bits a.self.covered a.image.now a.at j a.out.now (omega arith) (record { fits = λ i. (c.type_inv.image i).fits }) (omega arith)
    ∙ ap (λ (n : ℕ). over (series f 0 n) a.out.now) next

pub loop-j-init : goal.loop-j-init
loop-j-init c =
    let a = c.args in
    let f : ℕ → ℕ = λ k. packed a.self.bits a.self.covered a.image.now (a.at + 8 * k) 8 in
    c.loop-i.invariant ∙ ap (λ (i : ℕ). over (series f 0 (8 * i)) a.out.now) (omega arith)

pub loop-j-preserved : goal.loop-j-preserved
loop-j-preserved c =
    let l = c.loop-j in
    let a = c.args in
    let f : ℕ → ℕ = λ k. packed a.self.bits a.self.covered a.image.now (a.at + 8 * k) 8 in
    let low : c.wide-low.result ≡ byte a.image.now (a.self.bits + a.at / 8 + l.j) = c.wide-low.ensures.0 in
    let made : (c.wide-low.result + 256 * c.wide-high-in-loop-j.result) / 2 ^ (a.at % 8) % 256 ≡ f l.j =
    ap₂ (λ (x y : ℕ). (x + 256 * y) / 2 ^ (a.at % 8) % 256) low c.wide-high-in-loop-j.ensures.0
    ∙ sym (packed_made a.self.bits a.self.covered a.image.now a.at l.j (omega arith) (omega (arith, low, c.wide-low.ensures.1))) in
    ap₂ (λ (t : List ℕ) (v : ℕ). set t l.j v) l.invariant made ∙ series_next f l.j a.out.now (omega arith)

pub returns : goal.returns
unfolding packed_bytes
returns c =
    let a = c.args in
    let all : c.loop-j.j ≡ a.n = omega arith in
    c.loop-j.invariant ∙ ap (λ (m : ℕ). over (series (λ (k : ℕ). packed a.self.bits a.self.covered a.image.now (a.at + 8 * k) 8) 0 m) a.out.now) all
