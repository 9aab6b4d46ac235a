-- The counts as stages: a heading whose counts do not move has no store, one whose counts move has one. Where both headings are one there
-- is one stage; else the second goes by the table that the first leaves, which has as many records.
use mathlib.Core.Bool.{Bool, true, false, cond}
use mathlib.Core.List.{List, [], ◌∷◌, append-nil}
use mathlib.Core.Logic.{◌≢◌}
use mathlib.Core.Path.{◌≡◌, refl, ap, ◌∙◌}
use Prim.Native.Nat.{ℕ, ◌+◌, ◌≤◌, min, max}
use native.Mathlib.Omega.{arith}
use lib.Dec.{eqb}
use lib.ListN.{length, length-append}
use borrow.Author.Tests.{eq-eqb, ne_eqb}
use Rattle.paper.specs.Table.{rooms}
use Rattle.paper.specs.Store.{puts, run}
use Rattle.paper.specs.Answer.{yes_no}
use Rattle.laws.proofs.Runs.{rooms-run}
use Rattle.effects.specs.Stage.{Made}
use Rattle.effects.specs.Counts.{one_of, other_of, moved, recount, count_store, count_stores, count_moves}
use Rattle.effects.specs.declared.counts.Moves.{Moves}
use Rattle.effects.proofs.Stages.{made_none, made-onto}

-- ---- one heading

pub made-unmoved : (t : List ℕ) (k : ℕ) (m : Moves) (i : ℕ) → moved (rooms t) m i ≡ false → Made t t k k (count_store t m i)
unfolding count_store
made-unmoved t k m i e = rw e (made_none t k)

pub made-moved : (t u : List ℕ) (k l : ℕ) (m : Moves) (i : ℕ) (bytes : List ℕ) → moved (rooms t) m i ≡ true → bytes ≡ recount t m i
    → Made t u k l (puts i bytes ∷ []) → Made t u k l (count_store t m i)
unfolding count_store
made-moved t u k l m i bytes e q x = rw (e, ← q) x

-- ---- both

pub made-alone : (t u : List ℕ) (k l : ℕ) (m : Moves) (a b : ℕ) → a ≡ min (one_of m) (other_of m) → b ≡ max (one_of m) (other_of m) → a ≡ b
    → Made t u k l (count_store t m a) → Made t u k l (count_stores t m)
unfolding count_stores
made-alone t u k l m a b p q e x =
    let same : one_of m ≡ other_of m = omega arith in rw (← p, eq-eqb (one_of m) (other_of m) same, append-nil) x

pub made-two : (t u v : List ℕ) (k l n : ℕ) (m : Moves) (a b : ℕ) → a ≡ min (one_of m) (other_of m) → b ≡ max (one_of m) (other_of m) → a ≢ b
    → Made t u k l (count_store t m a) → Made u v l n (count_store u m b) → Made t v k n (count_stores t m)
unfolding count_stores
made-two t u v k l n m a b p q d x y =
    let two : one_of m ≢ other_of m = λ e. d (omega arith) in
    rw (← p, ← q, ne_eqb (one_of m) (other_of m) two) (made-onto t u v k l n (count_store t m a) (λ w. count_store w m b) x y)

-- ---- how many

store_length : (t : List ℕ) (m : Moves) (i : ℕ) → length (count_store t m i) ≡ yes_no (moved (rooms t) m i)
unfolding count_store
store_length t m i = go (moved (rooms t) m i)
  where
    go : (b : Bool) → length (cond b (puts i (recount t m i) ∷ []) []) ≡ yes_no b
    go true = refl
    go false = refl

pub count-length : (t : List ℕ) (m : Moves) → length (count_stores t m) ≡ count_moves (rooms t) m
unfolding count_stores count_moves
count-length t m = rw (length-append, store_length t m c) (ap (λ (n : ℕ). yes_no (moved (rooms t) m c) + n) (go (eqb (one_of m) (other_of m))))
  where
    c : ℕ
    c = min (one_of m) (other_of m)

    d : ℕ
    d = max (one_of m) (other_of m)

    u : List ℕ
    u = run t (count_store t m c)

    go : (b : Bool) → length (cond b [] (count_store u m d)) ≡ cond b 0 (yes_no (moved (rooms t) m d))
    go true = refl
    go false = store_length u m d ∙ ap (λ (n : ℕ). yes_no (moved n m d)) (rooms-run t (count_store t m c))

yes-most : (b : Bool) → yes_no b ≤ 1
yes-most true = omega arith
yes-most false = omega arith

pub counts-alone : (n : ℕ) (m : Moves) (a b : ℕ) (x : Bool) → a ≡ min (one_of m) (other_of m) → b ≡ max (one_of m) (other_of m) → a ≡ b
    → x ≡ moved n m a → (yes_no x + 0 ≡ count_moves n m) × (yes_no x + 0 ≤ 2)
unfolding count_moves
counts-alone n m a b x p q e f =
    let same : one_of m ≡ other_of m = omega arith in
    (rw (← p, ← f, eq-eqb (one_of m) (other_of m) same), omega (arith, yes-most x))

pub counts-two : (n : ℕ) (m : Moves) (a b : ℕ) (x y : Bool) → a ≡ min (one_of m) (other_of m) → b ≡ max (one_of m) (other_of m) → a ≢ b
    → x ≡ moved n m a → y ≡ moved n m b → (yes_no x + yes_no y ≡ count_moves n m) × (yes_no x + yes_no y ≤ 2)
unfolding count_moves
counts-two n m a b x y p q d f g =
    let two : one_of m ≢ other_of m = λ e. d (omega arith) in
    (rw (← p, ← q, ← f, ← g, ne_eqb (one_of m) (other_of m) two), omega (arith, yes-most x, yes-most y))
