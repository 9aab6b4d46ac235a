-- A capped sheet is never destroyed: DST asks write of the joined code, and that of a capped heading inhibits it by every path. So every name
-- that leads to it is refused by 14, and what a DST clears, cut or not, is another file: the heading stays one, whoever asks.
use mathlib.Core.Bool.{true, false}
use mathlib.Core.List.{List, [], ◌∷◌}
use mathlib.Core.Logic.{◌⊎◌, inl, inr}
use mathlib.Core.Path.{◌≡◌, refl}
use Prim.Native.Nat.{ℕ, zero, suc, ◌+◌, ◌-◌, ◌≤◌}
use native.Mathlib.Omega.{arith}
use lib.ListN.{length, take}
use lib.Seq.{take-length}
use borrow.Author.Tests.{eqb-true, eq-eqb}
use Rattle.paper.specs.Record.{byte, heading_code, entry_code, blank}
use Rattle.paper.specs.Layout.{boxed}
use Rattle.paper.specs.Table.{sized, rec, lay}
use Rattle.paper.specs.Line.{Word}
use Rattle.paper.specs.Check.{refusal_at, verdict}
use Rattle.paper.specs.Request.{dst, request, asked}
use Rattle.paper.specs.Code.{no_write}
use Rattle.paper.specs.Sound.{sound}
use Rattle.paper.specs.Walk.{State, start, applies, file, reached, to_directory, to_last, ended}
use Rattle.paper.specs.Store.{Store, run}
use Rattle.paper.specs.Effect.{Plan, Planned, plan, chain_of, end_of, dst_plan}
use Rattle.paper.specs.Answer.{Outcome, ran, one_name, deleting, requested}
use Rattle.laws.proofs.Tests.{truth, not-both}
use Rattle.laws.proofs.Lists.{every_take}
use Rattle.laws.proofs.Lay.{within}
use Rattle.demands.proofs.Sound.Clauses.{Sound, sound-clauses, entry-code}
use Rattle.demands.proofs.Request.Several.{destruction}
use Rattle.demands.proofs.Request.Walked.{walk-reached}
use Rattle.demands.proofs.Request.Ended.{Refused, checked, Passed, ran-by}
use Rattle.demands.proofs.SoundKept.Kept.{passed-sound, dst-keeps}
use Rattle.demands.proofs.Answered.{del-came}
use Rattle.histories.specs.History.{heads}
use Rattle.histories.proofs.Calls.Stores.{Kept, Of, Razing, razed-kept}
use Rattle.histories.proofs.Calls.Shapes.{own_code, Razes, dst-razes}
use Rattle.histories.proofs.Calls.Held.{held-code}
use Rattle.histories.proofs.Calls.Moved.{Moved, put-over}
use Rattle.histories.proofs.Calls.Requests.{whole-moved, named-shape}

-- "needs write on each file": the capped file by whatever name
module _ (t : List ℕ) (c : Sound t) (u place : ℕ) (w : Word) (d f : State) where
  closed : to_last boxed t d (chain_of w) ≡ reached f → no_write (heading_code (rec t (file t f))) ≡ true → no_write f.code ≡ true
  unfolding applies
  closed q n =
      let g = walk-reached 65535 t c d (chain_of w) f q in
      rw g.looked.code (go (truth (no_write (applies t f.entry))) g.fields.code (entry-code _ g.own))
    where
      go : (no_write (applies t f.entry) ≡ true) ⊎ (no_write (applies t f.entry) ≡ false)
          → heading_code (rec t (file t f)) ≤ 7 → entry_code (rec t f.entry) ≤ 7 → no_write (applies t f.entry) ≡ true
      go (inl e) a b = e
      go (inr e) a b = absurd (not-both n (own_code (heading_code (rec t (file t f))) (entry_code (rec t f.entry)) a b e))

  pub capped-fourteen : to_directory boxed t 1 (start u) (chain_of w) ≡ reached d → to_last boxed t d (chain_of w) ≡ reached f
      → no_write (heading_code (rec t (file t f))) ≡ true → Refused (dst_plan boxed t u place w) (refusal_at 14 (end_of place w))
  unfolding dst_plan ended verdict
  capped-fourteen a q n = rw (a, q) (checked _ refl (rw (closed q n)))

-- capped headings stay headings
abbrev Spares : (t s : List ℕ) → Type 0
Spares t s = (h : ℕ) → byte (rec t h) 0 ≡ 1 → no_write (heading_code (rec t h)) ≡ true → byte (rec s h) 0 ≡ 1

-- the stores of one name, cut anywhere
module _ (t : List ℕ) (c : Sound t) where
  razing-spares : {ss : List Store} → Razing t ss → (j : ℕ) → Spares t (run t (take j ss))
  unfolding run
  razing-spares r zero h k n = k
  razing-spares r (suc j) h k n =
      rw r.is (go (razed-kept t c r.file r.kind s (every_take _ j r.rest r.each) h (within t h c.whole (omega arith))))
    where
      s : List Store
      s = take j r.rest

      go : Kept t (run (lay t r.file blank) s) h ⊎ ((rec (run (lay t r.file blank) s) h ≡ blank) × Of t r.file h)
          → byte (rec (run (lay t r.file blank) s) h) 0 ≡ 1
      go (inl (inl e)) = rw e k
      go (inl (inr p)) = put-over t h _ k p
      go (inr (e, inl q)) = absurd (not-both n (rw q r.write))
      go (inr (e, inr q)) = let z : ⊥ = omega (arith, q.0) in absurd z

  passed-spares : (x : Planned) (p : Plan) → Razes t x → Passed x p → (j : ℕ) → Spares t (run t (take j p.stores))
  passed-spares x p h v = let r : Razes t (plan p) = rw v.plan at h in razing-spares (r v.checks)

-- .. of all names
names-spare : (ws : List Word) (t : List ℕ) (u : ℕ) (reply : List ℕ) (k n made : ℕ) → Sound t → Spares t (deleting (dst_plan boxed) t u reply k n made ws).table
unfolding deleting
names-spare [] t u reply k n made c = λ h a b. a
names-spare (w ∷ ws) t u reply k n made c = one (λ t₁. names-spare ws t₁ u reply)
  where
    x : Planned
    x = dst_plan boxed t u (n + 1) w

    more : List ℕ → ℕ → ℕ → ℕ → Outcome
    more t₁ k₁ n₁ made₁ = deleting (dst_plan boxed) t₁ u reply k₁ n₁ made₁ ws

    cut_at : (p : Plan) → Passed x p → (j : ℕ) → Spares t (run t (take j p.stores))
    cut_at p v = passed-spares t c x p (dst-razes t c u (n + 1) w) v

    whole : (p : Plan) → Passed x p → Spares t (run t p.stores)
    whole p v = rw (take-length p.stores) at (cut_at p v (length p.stores))

    one : ((t₁ : List ℕ) (k₁ n₁ made₁ : ℕ) → Sound t₁ → Spares t₁ (more t₁ k₁ n₁ made₁).table) → Spares t (one_name t reply k n made more (ran k x)).table
    one rest =
        ran-by (λ y. Spares t (one_name t reply k n made more y).table) k x
        (λ _ _ h a b. a)
        (λ p v _ h a b.
        let m : Moved true t (run t p.stores) = whole-moved true t c x p (named-shape destruction t c u (n + 1) w) v in
        let i = whole p v h a b in
        rest (run t p.stores) (k - length p.stores) (n + 1) (made + length p.stores) (passed-sound t x p (dst-keeps t u (n + 1) w c) v).clauses
        h i (rw (held-code h t (run t p.stores) (m.held h a b i)) b))
        (λ p v _. cut_at p v k)

-- the theorem: a sound table, a capped heading, a DST of any user with any stop number
pub never-destroyed : (t line text reply : List ℕ) (u k h : ℕ) (ws : List Word) → sized t ≡ true → sound boxed t ≡ true → asked line text ≡ request (dst ws)
    → heads h t ≡ true → no_write (heading_code (rec t h)) ≡ true → heads h (requested boxed t line text reply u k).table ≡ true
never-destroyed t line text reply u k h ws a b q i n =
    del-came (λ o. heads h o.table ≡ true) destruction t line text reply u k ws q
    (λ f _. i)
    (eq-eqb _ _ (names-spare ws t u reply k 0 0 (sound-clauses t a b) h (eqb-true _ _ i) n))
