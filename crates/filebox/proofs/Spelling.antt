-- Digits laid after the first bytes, and one byte after them: the bytes up to there are the first ones, the digits and that byte.
use mathlib.Core.List.{List, ◌++◌}
use mathlib.Core.Path.{◌≡◌, ap, ◌∙◌}
use mathlib.Core.Bool.{true, false}
use mathlib.Core.Logic.{◌⊎◌, inl, inr}
use Prim.Native.Nat.{ℕ, ◌+◌, ◌-◌, ◌^◌, ◌≤◌, ◌<◌}
use native.Mathlib.Nat.{pow-le-pow_right}
use lib.Dec.{leb}
use borrow.Author.Tests.{leb-true, leb-false}
use Rattle.laws.proofs.Tests.{truth}
use native.Mathlib.Omega.{arith}
use native.Mathlib.Numerals.{add-one}
use lib.ListN.{length, take, set, drop, length-append}
use lib.Seq.{sets, sets-eq, length-sets, take-suc-set, take-append_seam, length-take-le}
use Rattle.io.specs.Digits.{last_digits, IsDigitCount}
use Rattle.answers.specs.declared.Answer.{Answer}
use Rattle.filebox.specs.Spelled.{Spelled, Line}

-- a number of 64 bits has at most twenty digits
pub few-digits : (n k : ℕ) → n < 18446744073709551616 → IsDigitCount 10 1 n k → k ≤ 20
few-digits n k l f = go (truth (leb k 20))
  where
    go : (leb k 20 ≡ true) ⊎ (leb k 20 ≡ false) → k ≤ 20
    go (inl e) = leb-true k 20 e
    go (inr e) =
        let h : 20 < k = leb-false k 20 e in
        let m : 20 ≤ k - 1 = omega arith in
        let o : 0 < 10 = omega arith in
        let p : 10 ^ 20 ≤ 10 ^ (k - 1) = pow-le-pow_right o m in
        let q : 10 ^ (k - 1) ≤ n = f.2 (omega arith) in
        let z : ⊥ = omega arith in
        absurd z

-- the first bytes and those laid after them
laid : (l d : List ℕ) (at : ℕ) → at + length d ≤ length l → take (at + length d) (sets l at d) ≡ take at l ++ d
laid l d at h =
    let n : length (take at l ++ d) ≡ at + length d = length-append (take at l) d ∙ ap (λ (k : ℕ). k + length d) (length-take-le at l (omega arith)) in
    rw (sets-eq d l at h, ← n) (take-append_seam (take at l ++ d) (drop (length (take at l ++ d)) l))

pub spelled : (l d l₁ l₂ : List ℕ) (at n b k : ℕ) → at + 21 ≤ length l → k ≤ 20 → k ≡ length d → IsDigitCount 10 1 n k
    → d ≡ last_digits 10 k n → l₁ ≡ sets l at d
    → l₂ ≡ set l₁ (at + k) b → Spelled l at n b (at + k + 1) l₂
spelled l d l₁ l₂ at n b k room few e f g p q =
    record {
      number = d;
      decimal = record { places = k; fewest = f; digits = g };
      text = rw (q, p, add-one, take-suc-set (sets l at d) (at + k) b (omega (arith, length-sets l at d)), e, laid l d at (omega arith));
      end = omega arith;
    }

pub lined : (a : Answer) {l l₁ l₂ l₃ l₄ l₅ l₆ l₇ : List ℕ} {p₁ p₂ p₃ p₄ p₅ p₆ p₇ : ℕ} → Spelled l 0 a.number 32 p₁ l₁ → Spelled l₁ p₁ a.place 32 p₂ l₂
    → Spelled l₂ p₂ a.link 32 p₃ l₃ → Spelled l₃ p₃ a.names 32 p₄ l₄ → Spelled l₄ p₄ a.displaced 32 p₅ l₅ → Spelled l₅ p₅ a.bytes 32 p₆ l₆
    → Spelled l₆ p₆ a.stores 10 p₇ l₇ → Line a (take p₇ l₇)
lined a s₁ s₂ s₃ s₄ s₅ s₆ s₇ =
    record {
      number = s₁.number;
      place = s₂.number;
      link = s₃.number;
      names = s₄.number;
      displaced = s₅.number;
      bytes = s₆.number;
      stores = s₇.number;
      number_is = s₁.decimal;
      place_is = s₂.decimal;
      link_is = s₃.decimal;
      names_is = s₄.decimal;
      displaced_is = s₅.decimal;
      bytes_is = s₆.decimal;
      stores_is = s₇.decimal;
      text = rw (s₇.text, s₆.text, s₅.text, s₄.text, s₃.text, s₂.text, s₁.text);
    }
