-- Each record of a request has one turn: it is kept but for its counts, laid in a free record, the one that counts, or gone. It follows
-- from the shape of the power cut, store by store, and what is there before and after then says its phase.
use mathlib.Core.Bool.{true, false}
use mathlib.Core.List.{List, ◌∷◌, ◌++◌}
use mathlib.Core.Logic.{◌⊎◌, inl, inr, ◌≢◌, by_cases}
use mathlib.Core.Path.{◌≡◌, refl, sym, ◌∙◌}
use Prim.Native.Nat.{ℕ, ◌<◌}
use native.Mathlib.Omega.{arith}
use native.Mathlib.Decide.{ℕ_discrete}
use lib.ListN.{length}
use Rattle.paper.specs.Record.{byte, blank}
use Rattle.paper.specs.Table.{rooms, rec}
use Rattle.paper.specs.Name.{same}
use Rattle.paper.specs.Store.{Store, run}
use Rattle.laws.proofs.Tests.{truth}
use Rattle.laws.proofs.Lists.{Every}
use Rattle.laws.proofs.Entries.{same_true, eq-same}
use Rattle.laws.proofs.Lay.{length-rec, lay-same, lay-other}
use Rattle.laws.proofs.Runs.{Lays, run-each, rooms-run}
use Rattle.demands.proofs.Sound.Clauses.{HeadingOwn}
use Rattle.demands.proofs.Mending.Part as part
use Rattle.demands.proofs.Mending.Part.{Alike, equal}
use Rattle.demands.proofs.Mending.Counts.{alike-kind, alike_same, but-kind}
use Rattle.demands.proofs.Mending.Debris.{Loose, head, body}
use Rattle.demands.proofs.PowerCut.Cut.{Litters, Sweep, Sweeps, counted, run-counted, rooms-counted, Counts, entered, over, again, Shaped, none, phased}
use Rattle.disk.specs.Phase.{only_counts, phase_of, phase}
use Rattle.disk.proofs.Phases.{phase-still, phase-was, phase-is, phase-free, phase-freed, phase-counts, phase-held, kinds-differ, phase-in}
use Rattle.disk_demands.proofs.OnlyCounts.{but-only, only-but}

-- how record i goes from t to f, where e is the record that counts
pub data Turn (t f : List ℕ) (e i : ℕ) : Type 0 where
  kept : Alike (rec t i) (rec f i) → Turn t f e i
  laid : rec t i ≡ blank → Loose t (rec f i) → Turn t f e i
  counts : i ≡ e → Counts (rec t i) (rec f i) → Turn t f e i
  gone : rec f i ≡ blank → Loose f (rec t i) → Turn t f e i

-- debris is debris whatever its counts
alike-loose : {t : List ℕ} (x r : List ℕ) → Alike x r → Loose t x → Loose t r
alike-loose x r a (head k) = head (alike-kind x r a ∙ k)
alike-loose x r a (body k n) = let e : r ≡ x = alike_same x r a (rw k) in rw e (body k n)

-- ---- the turns of a request's stores

module _ (t : List ℕ) (pre : List Store) (s : Store) (post : List Store) (lit : Every (Litters t) pre)
    (one : Lays (λ i r. Counts (rec t i) r) (rooms t) s) (sw : Every (Sweeps (run t (pre ++ s ∷ post)) (counted t pre s)) post) where
  f : List ℕ
  f = run t (pre ++ s ∷ post)

  m : List ℕ
  m = counted t pre s

  rooms-m : rooms m ≡ rooms t
  unfolding m
  rooms-m = rooms-counted t pre s

  abbrev Last : ℕ → Type 0
  Last i = Alike (rec m i) (rec f i) ⊎ ((rec f i ≡ blank) × Loose f (rec m i))

  after-post : (i : ℕ) → i < rooms t → Last i
  after-post i l = go (unfold f m in at-end)
    where
      at-end : (rec (run t (pre ++ s ∷ post)) i ≡ rec (counted t pre s) i)
          ⊎ Sweep (run t (pre ++ s ∷ post)) (rec (counted t pre s) i) (rec (run t (pre ++ s ∷ post)) i) (rec (run t (pre ++ s ∷ post)) i)
      at-end =
          rw (run-counted t pre s post)
          (run-each (λ j r. Sweep (run (counted t pre s) post) (rec (counted t pre s) j) (rec (run (counted t pre s) post) j) r) (counted t pre s) post
          (rw (run-counted t pre s post) at sw) i (rw (rooms-counted t pre s) l))

      go : (rec f i ≡ rec m i) ⊎ Sweep f (rec m i) (rec f i) (rec f i) → Last i
      go (inl e) = inl (equal e)
      go (inr (inl a)) = inl a
      go (inr (inr c)) = inr (c.0, c.1.1)

  here : (i : ℕ) → i ≡ s.at → Last i → Turn t f s.at i
  here i q = go (rw (← q) at one.holds) at-e
    where
      at-e : rec m i ≡ s.bytes
      at-e = unfold m in rw q (lay-same (run t pre) s.at s.bytes one.size (rw (rooms-run t pre) one.within))

      nothing : {X : Type 0} → byte s.bytes 0 ≡ 2 → Loose f s.bytes → X
      nothing k (head z) = let b : ⊥ = omega arith in absurd b
      nothing k (body z n) = let b : ⊥ = omega arith in absurd b

      -- its counts do not matter to the store that counts
      alike : Counts (rec t i) s.bytes → byte (rec f i) 0 ≡ byte s.bytes 0 → Counts (rec t i) (rec f i)
      alike (entered k) y = entered (y ∙ k)
      alike (over k) y = over k
      alike (again k j) y = again k (y ∙ j)

      go : Counts (rec t i) s.bytes → rec m i ≡ s.bytes → Last i → Turn t f s.at i
      go c z (inl y) = counts q (alike c (rw z at (alike-kind (rec m i) (rec f i) y)))
      go (entered k) z (inr g) = nothing k (rw z at g.1)
      go (over k) z (inr g) = counts q (over k)
      go (again k j) z (inr g) = gone g.0 (head k)

  there : (i : ℕ) → i < rooms t → i ≢ s.at → Last i → Turn t f s.at i
  there i l d = go (run-each (λ j r. (rec t j ≡ blank) × Loose t r) t pre lit i l) other
    where
      other : rec m i ≡ rec (run t pre) i
      other = unfold m in lay-other (run t pre) s.at s.bytes i one.size d (rw (rooms-run t pre) l)

      go : (rec (run t pre) i ≡ rec t i) ⊎ ((rec t i ≡ blank) × Loose t (rec (run t pre) i)) → rec m i ≡ rec (run t pre) i → Last i
          → Turn t f s.at i
      go (inl a) z (inl y) = kept (rw (z, a) at y)
      go (inl a) z (inr g) = gone g.0 (rw (z, a) at g.1)
      go (inr a) z (inl y) = laid a.0 (alike-loose (rec m i) (rec f i) y (rw z a.1))
      go (inr a) z (inr g) = kept (equal (g.0 ∙ sym a.0))

  turn : (i : ℕ) → i < rooms t → Turn t f s.at i
  turn i l = by_cases (ℕ_discrete i s.at) (λ (q : i ≡ s.at). here i q (after-post i l)) (λ (q : i ≢ s.at). there i l q (after-post i l))

-- every record has a turn, and one of them counts
pub record Turns (t u : List ℕ) : Type 0 where
  pub at : ℕ
  pub each : (i : ℕ) → i < rooms t → Turn t u at i

pub shaped-turns : (t : List ℕ) (stores : List Store) → Shaped t stores → Turns t (run t stores)
unfolding f run
shaped-turns t stores (none e) = rw e (record { at = 0; each = λ i l. kept (equal refl) })
shaped-turns t stores (phased pre s post e lit one sw) = rw e (record { at = s.at; each = turn t pre s post lit one (rw e at sw) })

-- ---- the phase of each turn

module _ (t u : List ℕ) (long : length u ≡ length t) (i : ℕ) (l : i < rooms t) where
  of : phase t u i ≡ phase_of (rec t i) (rec u i)
  of = phase-in t u i (sym long) l

  pub same-phase : rec u i ≡ rec t i → phase t u i ≡ 0
  same-phase e = of ∙ phase-still (rec t i) (rec u i) (eq-same (rec t i) (rec u i) (sym e))

  -- a heading with other counts is written last
  pub kept-phase : Alike (rec t i) (rec u i) → (phase t u i ≡ 0) ⊎ (phase t u i ≡ 3)
  kept-phase (equal e) = inl (same-phase e)
  kept-phase (part.counts b) = go (truth (same (rec t i) (rec u i)))
    where
      go : (same (rec t i) (rec u i) ≡ true) ⊎ (same (rec t i) (rec u i) ≡ false) → (phase t u i ≡ 0) ⊎ (phase t u i ≡ 3)
      go (inl e) = inl (of ∙ phase-still (rec t i) (rec u i) e)
      go (inr d) =
          let x : byte (rec t i) 0 ≡ 1 = b.kind in
          let r : byte (rec u i) 0 ≡ 1 = but-kind (rec t i) (rec u i) b ∙ x in
          inr (of ∙ phase-counts (rec t i) (rec u i) d (omega arith) (omega arith) (omega arith) (omega arith) (but-only (rec t i) (rec u i) b))

  pub laid-phase : rec t i ≡ blank → Loose t (rec u i) → phase t u i ≡ 1
  laid-phase b g = of ∙ go g
    where
      z : byte (rec t i) 0 ≡ 0
      z = unfold blank in rw b

      go : Loose t (rec u i) → phase_of (rec t i) (rec u i) ≡ 1
      go (head k) = phase-free (rec t i) (rec u i) (kinds-differ (rec t i) (rec u i) (omega (arith, z))) z (omega arith)
      go (body k n) = phase-free (rec t i) (rec u i) (kinds-differ (rec t i) (rec u i) (omega (arith, z))) z (omega arith)

  pub gone-phase : rec u i ≡ blank → Loose u (rec t i) → phase t u i ≡ 3
  gone-phase b g = of ∙ go g
    where
      z : byte (rec u i) 0 ≡ 0
      z = unfold blank in rw b

      go : Loose u (rec t i) → phase_of (rec t i) (rec u i) ≡ 3
      go (head k) = phase-freed (rec t i) (rec u i) (kinds-differ (rec t i) (rec u i) (omega (arith, z))) (omega arith) (omega arith) z
      go (body k n) = phase-freed (rec t i) (rec u i) (kinds-differ (rec t i) (rec u i) (omega (arith, z))) (omega arith) (omega arith) z

  -- the record that counts has the phase of its own, unless it is as it was but for its counts
  pub counts-phase : (byte (rec t i) 0 ≡ 1 → HeadingOwn (rec t i)) → (byte (rec u i) 0 ≡ 1 → HeadingOwn (rec u i))
      → Counts (rec t i) (rec u i) → (phase t u i ≡ 2) ⊎ Alike (rec t i) (rec u i)
  counts-phase ht hu c = go c (truth (same (rec t i) (rec u i)))
    where
      held : byte (rec t i) 0 ≡ 1 → byte (rec u i) 0 ≡ 1 → same (rec t i) (rec u i) ≡ false
          → (only_counts (rec t i) (rec u i) ≡ true) ⊎ (only_counts (rec t i) (rec u i) ≡ false) → (phase t u i ≡ 2) ⊎ Alike (rec t i) (rec u i)
      held k j d (inl e) =
          inr (part.counts (only-but (rec t i) (rec u i) (length-rec t i l) (length-rec u i (rw long l)) (ht k) (hu j) e))
      held k j d (inr e) = inl (of ∙ phase-held (rec t i) (rec u i) d (omega arith) (omega arith) (omega arith) (omega arith) e)

      go : Counts (rec t i) (rec u i) → (same (rec t i) (rec u i) ≡ true) ⊎ (same (rec t i) (rec u i) ≡ false)
          → (phase t u i ≡ 2) ⊎ Alike (rec t i) (rec u i)
      go c (inl e) = inr (equal (sym (same_true (rec t i) (rec u i) e)))
      go (over k) (inr d) = inl (of ∙ phase-was (rec t i) (rec u i) d k)
      go (again k j) (inr d) = held k j d (truth (only_counts (rec t i) (rec u i)))
      go (entered k) (inr d) =
          by_cases (ℕ_discrete (byte (rec t i) 0) 2) (λ (q : byte (rec t i) 0 ≡ 2). inl (of ∙ phase-was (rec t i) (rec u i) d q))
          (λ (q : byte (rec t i) 0 ≢ 2). inl (of ∙ phase-is (rec t i) (rec u i) d q k))
