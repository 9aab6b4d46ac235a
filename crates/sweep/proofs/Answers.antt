-- The ways of a sweep: refused by the judge or for its index, cut by the stop number, or done. Done, its table is sound, so it has no rank twice and
-- the repaired list is its true index; where nothing was stored the table is as lent, and so is its index.
use mathlib.Core.Bool.{Bool, true, false, not, cond}
use mathlib.Core.List.{List, []}
use mathlib.Core.Logic.{◌≢◌}
use mathlib.Core.Path.{◌≡◌, refl, sym, ap, ◌∙◌}
use Prim.Native.Nat.{ℕ, ◌≤◌, ◌<◌}
use native.Mathlib.Omega.{arith}
use lib.ListN.{length}
use lib.Seq.{take_all}
use borrow.Author.Tests.{eq-eqb, lt-leb, not-true, not-false}
use Rattle.paper.specs.Answer.{plain, refusing}
use Rattle.paper.specs.Check.{whole, refusal_at, verdict}
use Rattle.paper.specs.Index.{true_index, is_true}
use Rattle.paper.specs.Layout.{boxed}
use Rattle.paper.specs.Sound.{sound}
use Rattle.paper.specs.Store.{run}
use Rattle.paper.specs.Sweep.{sweep_stores, swept, sweepable, sweeping}
use Rattle.paper.specs.Table.{sized}
use Rattle.laws.proofs.Entries.{same_true}
use Rattle.laws.proofs.Runs.{rooms-run}
use Rattle.laws.proofs.Tests.{and_both}
use Rattle.answers.specs.Shown.{shown}
use Rattle.answers.specs.declared.Answer.{Answer}
use Rattle.answers.specs.Promised.{Keeps}
use Rattle.judge.specs.Judged as judge
use Rattle.index_laws.specs.Judged.{apart, judged, fitting}
use Rattle.index_laws.proofs.Good.{Good}
use Rattle.index_laws.proofs.Truth.{true-length}
use Rattle.index_demands.proofs.Apart.{sound-apart, sound-judged}
use Rattle.sweep_demands.proofs.Calls.{swept_whole, sweep-whole, sweep_sound}
use Rattle.effects.specs.Allowed.{Allowed}

module _ (t x : List ℕ) (n : ℕ) (j : n ≡ judge.judged t) (z : n ≡ 0) where
  judge-passed : (sized t ≡ true) × (sound boxed t ≡ true)
  unfolding judge.judged
  judge-passed = go (sized t) (sound boxed t) j
    where
      go : (a b : Bool) → n ≡ cond a (cond b 0 2) 1 → (a ≡ true) × (b ≡ true)
      go true true e = (refl, refl)
      go true false e = let y : ⊥ = omega (arith, e, z) in absurd y
      go false b e = let y : ⊥ = omega (arith, e, z) in absurd y

  is-true-by : (b : Bool) → b ≡ judged t x → is_true t x ≡ b
  is-true-by b e = sym (e ∙ sound-judged t x judge-passed.0 judge-passed.1)

  -- the judge passed the table, and `is_true` its index
  pub fits : (b : Bool) → b ≡ judged t x → not b ≡ false → Good t x
  fits b e f = record { sized = judge-passed.0; sound = judge-passed.1; index = is-true-by b e ∙ not-false b f }

module _ (t x : List ℕ) (k : ℕ) where
  abbrev Answers : Answer → List ℕ → List ℕ → Type 0
  Answers r u y = Keeps (sweeping t x k) r u y []

  -- ---- refused: nothing is changed

  refused-with : (n : ℕ) → sweeping t x k ≡ record { outcome = refusing t [] (refusal_at n (whole 0)); index = x }
      → (r : Answer) → r ≡ shown (plain n (whole 0) 0 0) → Answers r t x
  refused-with n e r q = rw e (record { promised = record { answer = q; table = refl; reply = refl }; index = refl })

  -- by the judge
  pub answers-judged : (n : ℕ) → n ≡ judge.judged t → n ≢ 0 → (r : Answer) → r ≡ shown (plain n (whole 0) 0 0) → Answers r t x
  unfolding judge.judged sweeping sweepable verdict
  answers-judged n j z = refused-with n (go (sized t) refl (sound boxed t) refl)
    where
      go : (a : Bool) → sized t ≡ a → (b : Bool) → sound boxed t ≡ b
          → sweeping t x k ≡ record { outcome = refusing t [] (refusal_at n (whole 0)); index = x }
      go false p b q = rw (j, p)
      go true p false q = rw (j, p, q)
      go true p true q = absurd (z (j ∙ rw (p, q)))

  -- for its index
  pub answers-26 : (n : ℕ) → n ≡ judge.judged t → n ≡ 0 → (b : Bool) → b ≡ judged t x → not b ≡ true
      → (r : Answer) → r ≡ shown (plain 26 (whole 0) 0 0) → Answers r t x
  unfolding sweeping sweepable verdict
  answers-26 n j z b e f =
      let p = judge-passed t x n j z in
      refused-with 26 (rw (p.0, p.1, is-true-by t x n j z b e ∙ not-true b f))

  module _ (f : Good t x) (u : List ℕ) (m : ℕ) (c : Allowed t u k m (sweep_stores t)) where
    -- ---- cut: the index is as lent

    pub answers-cut : k < m → (r : Answer) → r ≡ shown (plain 22 (whole 0) 0 k) → Answers r u x
    unfolding sweeping sweepable verdict
    answers-cut l r q =
        rw (f.sized, f.sound, f.index, lt-leb (length (sweep_stores t)) k (c.more l))
        (record { promised = record { answer = q; table = c.table; reply = refl }; index = refl })

    -- ---- done

    module _ (l : m ≤ k) (r : Answer) (q : r ≡ shown (plain 0 (whole 0) 0 m)) where
      all : length (sweep_stores t) ≤ k
      all = omega (arith, c.all l)

      after : u ≡ swept t
      unfolding swept
      after = c.table ∙ ap (run t) (take_all k (sweep_stores t) all)

      done : sweeping t x k ≡ swept_whole t
      done = sweep-whole t x k f all

      true-after : (y : List ℕ) → y ≡ true_index u → Answers r u y
      true-after y w = rw done (record { promised = record { answer = q ∙ rw (c.all l); table = after; reply = refl }; index = w ∙ rw after })

      -- nothing was stored: the table is as lent
      pub answers-still : m ≡ 0 → Answers r u x
      unfolding is_true swept run
      answers-still z =
          let e : t ≡ u = ap (run t) (take_all 0 (sweep_stores t) (omega (arith, c.all l))) ∙ sym after in
          true-after x (rw (sym e) (same_true x (true_index t) f.index))

      -- repaired, as a list that fits a table that has no rank twice
      pub answers-repaired : (y : List ℕ) → (apart u ≡ true → fitting u x ≡ true → y ≡ true_index u) → Answers r u y
      unfolding fitting swept
      answers-repaired y w =
          let g : Good u (true_index u) = rw after (rw done at (sweep_sound t x k (rw done refl))) in
          true-after y (w (sound-apart u g.sized g.sound)
          (and_both (sized u) _ g.sized (eq-eqb _ _ (true-length t x f.index ∙ sym (rw after (rooms-run t (sweep_stores t)))))))
