-- The clauses on records one by one: what each kind's test says, part by part, and that the records pass exactly when the clauses hold.
-- Each clause speaks of one kind, so it is the scan of the parts that the test of that kind has.
use mathlib.Core.Bool.{true, false, ◌&&◌, ◌||◌, cond, true≢false}
use mathlib.Core.List.{List, [], ◌∷◌}
use mathlib.Core.Logic.{◌⊎◌, inl, inr, by_cases}
use mathlib.Core.Path.{◌≡◌, refl, sym, ◌∙◌}
use Prim.Native.Nat.{ℕ, zero, suc, ◌+◌, ◌-◌, ◌*◌, ◌^◌, ◌≤◌, ◌<◌}
use native.Mathlib.Omega.{arith}
use native.Mathlib.Decide.{dec_lt}
use native.Mathlib.Nat.{add-zero}
use lib.Dec.{eqb, leb, ltb}
use lib.ListN.{get_or}
use borrow.Author.Tests.{eqb-true, eq-eqb, ne_eqb, leb-true, le-leb, ltb-true, lt-ltb}
use Rattle.judge_laws.specs.Shapes.{plain_test, bare_test, heading_right, base_right, inside_right, entry_right}
use Rattle.paper.specs.Name.{link_name, legal_base}
use Rattle.paper.specs.Number.{number_at}
use Rattle.paper.specs.Record.{byte, is_kind, heading_type, level, heading_code, lifetime, text_length, directory, entry_code, holder_of, heading_named, user_of, bytes_held, zeros}
use Rattle.paper.specs.Layout.{name_of, packed_name, boxed}
use Rattle.paper.specs.Sound.{implies, mark_right, text_as_above, is_base}
use Rattle.paper.specs.Table.{rec}
use Rattle.laws.proofs.Numbers.{number-zeros}
use Rattle.laws.proofs.Scans.{all_true}
use Rattle.laws.proofs.Tests.{truth, and_left, and_right, and_both, implies-use, implies-by, false-by, joined, joined-first, joined-part}
use Rattle.laws.proofs.Fields.{zeros_by}
use Rattle.judge_laws.proofs.Tests.{and-past}

-- what `zeros` says
pub zeros-at : (j n : ℕ) (r : List ℕ) → zeros j n r ≡ true → (m : ℕ) → m < n → byte r (j + m) ≡ 0
unfolding zeros
zeros-at j n r e m l = eqb-true _ _ (all_true (λ i. eqb (byte r (j + i)) 0) n m l e)

pub zeros-not : (j n : ℕ) (r : List ℕ) (m : ℕ) → m < n → (byte r (j + m) ≡ 0 → ⊥) → zeros j n r ≡ false
zeros-not j n r m l x = false-by (zeros j n r) (λ e. x (zeros-at j n r e m l))

-- zeros read at once, or one by one
pub zeros-more : (j m w : ℕ) (r : List ℕ) → zeros j m r ≡ true → number_at w r (j + m) ≡ 0 → zeros j (m + w) r ≡ true
zeros-more j m w r z e = zeros_by j (m + w) r (λ k l. go k l (dec_lt k m))
  where
    go : (k : ℕ) → k < m + w → Dec (k < m) → byte r (j + k) ≡ 0
    go k l d =
        by_cases d (λ (b : k < m). zeros-at j m r z k b)
        (λ (b : ¬ (k < m)). let q : j + k ≡ j + m + (k - m) = omega arith in rw q (number-zeros w r (j + m) e (k - m) (omega arith)))

-- a number of zeros is 0, and one that is not 0 refutes them
number-none : (w : ℕ) (s : List ℕ) (j : ℕ) → ((m : ℕ) → m < w → get_or s (j + m) 0 ≡ 0) → number_at w s j ≡ 0
unfolding number_at
number-none zero s j h = refl
number-none (suc w) s j h =
    let low : get_or s j 0 ≡ 0 = simp add-zero at (h 0 (omega arith)) in
    let high : number_at w s (suc j) ≡ 0 =
    number-none w s (suc j) (λ m l. let q : suc j + m ≡ j + suc m = omega arith in rw q (h (suc m) (omega arith))) in
    omega arith

pub zeros-refuted : (j n w k : ℕ) (r : List ℕ) → k + w ≤ n → (number_at w r (j + k) ≡ 0 → ⊥) → zeros j n r ≡ false
zeros-refuted j n w k r l f =
    false-by (zeros j n r)
    (λ e. f (number-none w r (j + k) (λ m b. let q : j + k + m ≡ j + (k + m) = omega arith in rw q (zeros-at j n r e (k + m) (omega arith)))))

-- a number of eight bytes is two numbers of four
pub number-eight : (s : List ℕ) (j : ℕ) → number_at 8 s j ≡ number_at 4 s j + number_at 4 s (j + 4) * 4294967296
unfolding number_at
number-eight s j = let e : j + 4 ≡ suc (suc (suc (suc j))) = omega arith in rw e (omega arith)

pub zeros-fewer : (j m n : ℕ) (r : List ℕ) → m ≤ n → zeros j n r ≡ true → zeros j m r ≡ true
zeros-fewer j m n r l z = zeros_by j m r (λ k b. zeros-at j n r z k (omega arith))

pub zeros-none : (j : ℕ) (r : List ℕ) → zeros j 0 r ≡ true
zeros-none j r = zeros_by j 0 r (λ m l. let z : ⊥ = omega arith in absurd z)

pub zeros-next : (j m : ℕ) (r : List ℕ) → zeros j m r ≡ true → byte r (j + m) ≡ 0 → zeros j (m + 1) r ≡ true
unfolding number_at
zeros-next j m r z e = zeros-more j m 1 r z (omega arith)

-- a heading, part by part
pub record Heading (r : List ℕ) : Type 0 where
  pub type : heading_type r ≤ 1
  pub grade : level r ≤ 3
  pub code : heading_code r ≤ 7
  pub some : 1 ≤ lifetime r
  pub most : lifetime r ≤ 2
  pub mark : mark_right r ≡ true
  pub gap : zeros 6 4 r ≡ true
  pub bare : bare_test r ≡ true
  pub rest : zeros 16 16 r ≡ true
  pub plain : heading_type r ≡ 0 → (lifetime r ≡ 1) × (text_length r ≡ 0)

plain-use : (r : List ℕ) → plain_test r ≡ true → heading_type r ≡ 0 → (lifetime r ≡ 1) × (text_length r ≡ 0)
plain-use r e q =
    let z : (eqb (lifetime r) 1 && eqb (text_length r) 0) ≡ true = implies-use (eqb (heading_type r) 0) _ e (eq-eqb _ _ q) in
    (eqb-true _ _ (and_left (eqb (lifetime r) 1) _ z), eqb-true _ _ (and_right (eqb (lifetime r) 1) _ z))

pub heading-view : (r : List ℕ) → heading_right r ≡ true → Heading r
unfolding heading_right joined
heading-view r e =
    let a = leb (heading_type r) 1 in
    let s =
    leb (level r) 3 ∷ leb (heading_code r) 7 ∷ leb 1 (lifetime r) ∷ leb (lifetime r) 2 ∷ mark_right r ∷ zeros 6 4 r
    ∷ bare_test r ∷ zeros 16 16 r ∷ plain_test r ∷ [] in
    record {
      type = leb-true _ _ (joined-first a s e);
      grade = leb-true _ _ (joined-part a s 0 e);
      code = leb-true _ _ (joined-part a s 1 e);
      some = leb-true _ _ (joined-part a s 2 e);
      most = leb-true _ _ (joined-part a s 3 e);
      mark = joined-part a s 4 e;
      gap = joined-part a s 5 e;
      bare = joined-part a s 6 e;
      rest = joined-part a s 7 e;
      plain = plain-use r (joined-part a s 8 e);
    }

-- a text record, part by part
pub record Texted (r : List ℕ) : Type 0 where
  pub some : 1 ≤ bytes_held r
  pub most : bytes_held r ≤ 24
  pub gap : zeros 6 2 r ≡ true
  pub rest : zeros (8 + bytes_held r) (24 - bytes_held r) r ≡ true

pub text-view : (r : List ℕ) → text_as_above 0 r ≡ true → Texted r
unfolding joined
text-view r e =
    let a = leb 1 (bytes_held r) in
    let s = leb (bytes_held r) 24 ∷ zeros 6 2 r ∷ zeros (8 + bytes_held r) (24 - bytes_held r) r ∷ [] in
    record {
      some = leb-true _ _ (joined-first a s e);
      most = leb-true _ _ (joined-part a s 0 e);
      gap = joined-part a s 1 e;
      rest = joined-part a s 2 e;
    }

-- an entry, part by part
pub record Entered (t r : List ℕ) : Type 0 where
  pub code : entry_code r ≤ 7
  pub laid : boxed.as_above r ≡ true
  pub named : is_kind 1 (rec t (heading_named r)) ≡ true
  pub link : link_name (name_of boxed r) ≡ true
  pub place : cond (is_base r) (base_right r) (inside_right t r) ≡ true

-- the number of a name that is as above
pub above-number : (r : List ℕ) → boxed.as_above r ≡ true → packed_name r < 2 ^ 60
unfolding joined
above-number r e = ltb-true _ _ (joined-part (eqb (byte r 9) 0) (ltb (packed_name r) (2 ^ 60) ∷ zeros 18 14 r ∷ []) 0 e)

-- .. which are its bytes from 9 on, part by part
pub above-gap : (r : List ℕ) → (byte r 9 ≡ 0 → ⊥) → boxed.as_above r ≡ false
above-gap r n = rw (ne_eqb (byte r 9) 0 n)

pub above-long : (r : List ℕ) → 2 ^ 60 ≤ packed_name r → boxed.as_above r ≡ false
above-long r l = false-by (boxed.as_above r) (λ e. let z : ⊥ = omega (arith, above-number r e) in z)

pub above-rest : (r : List ℕ) → byte r 9 ≡ 0 → packed_name r < 2 ^ 60 → boxed.as_above r ≡ zeros 18 14 r
above-rest r g l = rw (g, lt-ltb (packed_name r) (2 ^ 60) l)

pub entry-view : (t r : List ℕ) → entry_right t r ≡ true → Entered t r
unfolding entry_right joined
entry-view t r e =
    let a = leb (entry_code r) 7 in
    let s =
    boxed.as_above r ∷ is_kind 1 (rec t (heading_named r)) ∷ link_name (name_of boxed r) ∷ cond (is_base r) (base_right r) (inside_right t r) ∷ [] in
    record {
      code = leb-true _ _ (joined-first a s e);
      laid = joined-part a s 0 e;
      named = joined-part a s 1 e;
      link = joined-part a s 2 e;
      place = joined-part a s 3 e;
    }

-- the place of an entry, as the clauses have it
pub base-holder : (t r : List ℕ) → cond (is_base r) (base_right r) (inside_right t r) ≡ true → (is_base r || directory (rec t (holder_of r))) ≡ true
unfolding inside_right
base-holder t r e = go (truth (is_base r))
  where
    go : (is_base r ≡ true) ⊎ (is_base r ≡ false) → (is_base r || directory (rec t (holder_of r))) ≡ true
    go (inl b) = rw b
    go (inr b) = rw b (and_left (directory (rec t (holder_of r))) _ (rw b at e))

pub base-user : (t r : List ℕ) → cond (is_base r) (base_right r) (inside_right t r) ≡ true → cond (is_base r) (leb (user_of r) 999999) (eqb (user_of r) 0) ≡ true
unfolding inside_right base_right
base-user t r e = go (truth (is_base r))
  where
    go : (is_base r ≡ true) ⊎ (is_base r ≡ false) → cond (is_base r) (leb (user_of r) 999999) (eqb (user_of r) 0) ≡ true
    go (inl b) = rw b (and_left (leb (user_of r) 999999) _ (rw b at e))
    go (inr b) = rw b (and_right (directory (rec t (holder_of r))) _ (rw b at e))

pub base-legal : (t r : List ℕ) → cond (is_base r) (base_right r) (inside_right t r) ≡ true → implies (is_base r) (legal_base (name_of boxed r)) ≡ true
unfolding base_right
base-legal t r e = implies-by (is_base r) _ (λ b. and_right (leb (user_of r) 999999) _ (rw b at e))

pub base-place : (t r : List ℕ) → (is_base r || directory (rec t (holder_of r))) ≡ true → cond (is_base r) (leb (user_of r) 999999) (eqb (user_of r) 0) ≡ true
    → implies (is_base r) (legal_base (name_of boxed r)) ≡ true → cond (is_base r) (base_right r) (inside_right t r) ≡ true
unfolding inside_right base_right
base-place t r p u n = go (truth (is_base r))
  where
    go : (is_base r ≡ true) ⊎ (is_base r ≡ false) → cond (is_base r) (base_right r) (inside_right t r) ≡ true
    go (inl b) = rw b (and_both (leb (user_of r) 999999) _ (rw b at u) (rw b at n))
    go (inr b) = rw b (and_both (directory (rec t (holder_of r))) _ (rw b at p) (rw b at u))

-- a part that fails, and what is left when all but the last pass
pub heading-not : (r : List ℕ) → (Heading r → ⊥) → heading_right r ≡ false
heading-not r n = false-by (heading_right r) (λ e. n (heading-view r e))

pub heading-left : (r : List ℕ) → heading_type r ≤ 1 → level r ≤ 3 → heading_code r ≤ 7 → 1 ≤ lifetime r → lifetime r ≤ 2 → mark_right r ≡ true
    → zeros 6 4 r ≡ true → bare_test r ≡ true → zeros 16 16 r ≡ true → heading_right r ≡ plain_test r
unfolding heading_right
heading-left r a b d e f m g o h =
    rw (m, le-leb (heading_type r) 1 a, le-leb (level r) 3 b, le-leb (heading_code r) 7 d, le-leb 1 (lifetime r) e, le-leb (lifetime r) 2 f, g, o, h)

pub text-not : (r : List ℕ) → (Texted r → ⊥) → text_as_above 0 r ≡ false
text-not r n = false-by (text_as_above 0 r) (λ e. n (text-view r e))

pub text-gap : (r : List ℕ) → zeros 6 2 r ≡ false → text_as_above 0 r ≡ false
text-gap r e = text-not r (λ h. true≢false (sym h.gap ∙ e))

pub text-left : (r : List ℕ) → 1 ≤ bytes_held r → bytes_held r ≤ 24 → zeros 6 2 r ≡ true → text_as_above 0 r ≡ zeros (8 + bytes_held r) (24 - bytes_held r) r
text-left r a b d = rw (le-leb 1 (bytes_held r) a, le-leb (bytes_held r) 24 b, d)

-- a full block has no padding
pub text-full : (r : List ℕ) → bytes_held r ≡ 24 → zeros 6 2 r ≡ true → text_as_above 0 r ≡ true
text-full r k g = text-left r (omega arith) (omega arith) g ∙ rw k (zeros-none 32 r)

pub entry-not : (t r : List ℕ) → (Entered t r → ⊥) → entry_right t r ≡ false
entry-not t r n = false-by (entry_right t r) (λ e. n (entry-view t r e))

pub entry-left : (t r : List ℕ) → entry_code r ≤ 7 → boxed.as_above r ≡ true → is_kind 1 (rec t (heading_named r)) ≡ true
    → link_name (name_of boxed r) ≡ true → entry_right t r ≡ cond (is_base r) (base_right r) (inside_right t r)
unfolding entry_right
entry-left t r a b d e = rw (le-leb (entry_code r) 7 a, b, d, e)

pub entry-made : (t r : List ℕ) → Entered t r → entry_right t r ≡ true
entry-made t r h = entry-left t r h.code h.laid h.named h.link ∙ h.place

-- an entry that is no base file's
pub inside-not : (t r : List ℕ) → is_base r ≡ false → directory (rec t (holder_of r)) ≡ false → entry_right t r ≡ false
inside-not t r b d = entry-not t r (λ h. true≢false (sym (base-holder t r h.place) ∙ rw b d))

pub inside-left : (t r : List ℕ) → is_base r ≡ false → directory (rec t (holder_of r)) ≡ true → cond (is_base r) (base_right r) (inside_right t r) ≡ eqb (user_of r) 0
unfolding inside_right
inside-left t r b d = rw b (and-past (directory (rec t (holder_of r))) (eqb (user_of r) 0) d)
