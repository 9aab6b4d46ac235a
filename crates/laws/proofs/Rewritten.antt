-- A heading with another mark and text length: byte 5 and bytes 10-11 are laid, so every other byte is as it was.
-- So it is a heading of the same type, level, codes and lifetime, and laid again it is as if laid once.
use mathlib.Core.List.{List, ◌++◌, append_assoc}
use mathlib.Core.Logic.{◌⊎◌, inl, inr, ◌≢◌, by_cases}
use mathlib.Core.Path.{◌≡◌, sym, ap, ◌∙◌}
use Prim.Native.Nat.{ℕ, ◌+◌, ◌-◌, ◌^◌, ◌≤◌, ◌<◌}
use native.Mathlib.Omega.{arith}
use native.Mathlib.Decide.{ℕ_discrete, dec_lt}
use lib.ListN.{length, get_or, set, take, drop, length-set}
use lib.Seq.{sets-eq, length-sets, get_or-set_same, get_or-set_other, drop_at, length-take-le}
use Rattle.paper.specs.Number.{bytes_of}
use Rattle.paper.specs.Record.{byte, text_length, zeros, rewritten}
use Rattle.laws.proofs.Scans.{all-cong}
use Rattle.laws.proofs.Fields.{number-field}
use Rattle.laws.proofs.Lay.{sets-before, sets-past, sets-in, ext-rec}

-- neither the mark nor the text length
abbrev pub Apart : ℕ → Type 0
Apart j = (j ≢ 5) × ((j < 10) ⊎ (12 ≤ j))

module _ (r : List ℕ) (mark n : ℕ) where
  pub rewritten-byte : (j : ℕ) → Apart j → byte (rewritten r mark n) j ≡ byte r j
  unfolding rewritten bytes_of
  rewritten-byte j (d, inl l) = sets-before (bytes_of 2 n) (set r 5 mark) 10 j l ∙ get_or-set_other r 5 j mark 0 d
  rewritten-byte j (d, inr l) = sets-past (bytes_of 2 n) (set r 5 mark) 10 j l ∙ get_or-set_other r 5 j mark 0 d

  pub rewritten-zeros : (j m : ℕ) → ((i : ℕ) → i < m → Apart (j + i)) → zeros j m (rewritten r mark n) ≡ zeros j m r
  unfolding zeros
  rewritten-zeros j m h = all-cong _ _ m (λ i b. rw (rewritten-byte (j + i) (h i b)))

  module _ (s : length r ≡ 32) where
    pub length-rewritten : length (rewritten r mark n) ≡ 32
    unfolding rewritten
    length-rewritten = length-sets (set r 5 mark) 10 (bytes_of 2 n) ∙ length-set r 5 mark ∙ s

    pub rewritten-mark : byte (rewritten r mark n) 5 ≡ mark
    unfolding rewritten bytes_of
    rewritten-mark = sets-before (bytes_of 2 n) (set r 5 mark) 10 5 (omega arith) ∙ get_or-set_same r 5 mark 0 (omega arith)

    rewritten-size : (j : ℕ) → j < 2 → byte (rewritten r mark n) (10 + j) ≡ get_or (bytes_of 2 n) j 0
    unfolding rewritten bytes_of
    rewritten-size j l = sets-in (bytes_of 2 n) (set r 5 mark) 10 j l (rw (length-set r 5 mark) (omega arith))

    pub rewritten-length : n < 256 ^ 2 → text_length (rewritten r mark n) ≡ n
    unfolding rewritten bytes_of
    rewritten-length l = number-field 2 n 10 (rewritten r mark n) (drop 12 (set r 5 mark)) l there
      where
        there : drop 10 (rewritten r mark n) ≡ bytes_of 2 n ++ drop 12 (set r 5 mark)
        there =
            let e : length (set r 5 mark) ≡ 32 = length-set r 5 mark ∙ s in
            ap (drop 10) (sets-eq (bytes_of 2 n) (set r 5 mark) 10 (omega arith) ∙ append_assoc (take 10 (set r 5 mark)) (bytes_of 2 n) (drop 12 (set r 5 mark)))
            ∙ drop_at (take 10 (set r 5 mark)) (bytes_of 2 n ++ drop 12 (set r 5 mark)) 10 (length-take-le 10 (set r 5 mark) (omega arith))

-- laid twice, the last counts
pub rewritten-twice : (r : List ℕ) (a m b n : ℕ) → length r ≡ 32 → rewritten (rewritten r a m) b n ≡ rewritten r b n
rewritten-twice r a m b n s = ext-rec _ _ (length-rewritten (rewritten r a m) b n first) (length-rewritten r b n s) at_byte
  where
    first : length (rewritten r a m) ≡ 32
    first = length-rewritten r a m s

    at_byte : (j : ℕ) → j < 32 → byte (rewritten (rewritten r a m) b n) j ≡ byte (rewritten r b n) j
    at_byte j l =
        by_cases (ℕ_discrete j 5)
        (λ (e : j ≡ 5). rw e (rewritten-mark (rewritten r a m) b n first ∙ sym (rewritten-mark r b n s)))
        (λ (d : j ≢ 5).
        by_cases (dec_lt j 10) (λ (k : j < 10). out (d, inl k))
        (λ (k : ¬ (j < 10)).
        by_cases (dec_lt j 12)
        (λ (i : j < 12).
        let e : j ≡ 10 + (j - 10) = omega arith in
        rw e (rewritten-size (rewritten r a m) b n first (j - 10) (omega arith) ∙ sym (rewritten-size r b n s (j - 10) (omega arith))))
        (λ (i : ¬ (j < 12)). out (d, inr (omega arith)))))
      where
        out : Apart j → byte (rewritten (rewritten r a m) b n) j ≡ byte (rewritten r b n) j
        out x = rewritten-byte (rewritten r a m) b n j x ∙ rewritten-byte r a m j x ∙ sym (rewritten-byte r b n j x)
