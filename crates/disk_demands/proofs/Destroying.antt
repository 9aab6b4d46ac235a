-- A DST on a disk: the heading cleared, a flush, then text, entries and counts in any order. Without the heading every part of the rest is
-- debris or a count, and mends to the table after; with it nothing but counts is written, and they mend to the table before.
use mathlib.Core.Bool.{true, false}
use mathlib.Core.List.{List, [], ◌∷◌}
use mathlib.Core.Logic.{◌⊎◌, inl, inr, ◌≢◌, by_cases}
use mathlib.Core.Path.{◌≡◌, refl, sym, ap, ◌∙◌, subst}
use Prim.Native.Nat.{ℕ, ◌+◌, ◌≤◌, ◌<◌}
use native.Mathlib.Omega.{arith}
use native.Mathlib.Decide.{ℕ_discrete, dec_le}
use lib.ListN.{length, take}
use lib.Seq.{take_all}
use borrow.Author.Tests.{eqb-true}
use Rattle.paper.specs.Record.{byte, is_kind, blank}
use Rattle.paper.specs.Layout.{boxed}
use Rattle.paper.specs.Table.{sized, rooms, rec}
use Rattle.paper.specs.Line.{Word}
use Rattle.paper.specs.Sound.{sound}
use Rattle.paper.specs.Walk.{file}
use Rattle.paper.specs.Store.{Store, clear, run}
use Rattle.paper.specs.Effect.{Plan, Planned, with_entries, destroying, dst_plan}
use Rattle.paper.specs.Mend.{mend_stores, mended}
use Rattle.paper.specs.Answer.{Outcome, Ran, one_name, deleting, mending}
use Rattle.laws.proofs.Tests.{truth, not-both, and_left}
use Rattle.laws.proofs.Lay.{length-rec, kind-blank}
use Rattle.laws.proofs.Runs.{length_run}
use Rattle.demands.proofs.Sound.Right.{Right, sound-right, right-sound}
use Rattle.demands.proofs.Request.Several.{destruction}
use Rattle.demands.proofs.Request.Fair.{fair-some}
use Rattle.demands.proofs.Request.Ended.{Passed, ran-by, passes, cuts}
use Rattle.demands.proofs.Answered.Numbered.{named-refused}
use Rattle.demands.proofs.Destroyed.{Doomed, passed-doomed}
use Rattle.demands.proofs.Mending.{mended_whole, mend-whole}
use Rattle.demands.proofs.Mending.Part.{Alike, equal, counts}
use Rattle.demands.proofs.Mending.Debris.{sound-keeps, Left, ours, left-mends}
use Rattle.demands.proofs.Mending.Again.{Tidy, tidied}
use Rattle.demands.proofs.PowerCut.Cut.{tidy-rids}
use Rattle.demands.proofs.PowerCut.Razing as razing
use Rattle.demands.proofs.PowerCut.Razing.{razed-right, razed-mends}
use Rattle.disk.specs.Phase.{only_counts}
use Rattle.disk.specs.Disk.{Agrees, Destroyed, InTwo, in_heading, in_rest}
use Rattle.disk_demands.proofs.OnlyCounts.{not-only, only-but}

module _ (t : List ℕ) (h : ℕ) (r : Right t) (k : byte (rec t h) 0 ≡ 1) (v : with_entries t h ≡ false) where
  -- the heading cleared, and all of it done
  abbrev a : List ℕ
  a = razing.m t h r.clauses k

  abbrev u : List ℕ
  u = razing.f t h r.clauses k

  long : length u ≡ length t
  long = unfold razing.f razing.g in length_run (run t (destroying t h)) _ ∙ length_run t (destroying t h)

  clear-there : rec a h ≡ blank
  clear-there = razing.at-h t h r.clauses k

  elsewhere : (i : ℕ) → i < rooms t → i ≢ h → rec a i ≡ rec t i
  elsewhere = razing.elsewhere t h r.clauses k

  heading-was : rec a h ≡ rec t h → ⊥
  heading-was e = omega (arith, kind-blank (rec t h) (sym e ∙ clear-there))

  -- the rest done is tidied
  last-tidy : (i : ℕ) → i < rooms t → Tidy (rec a i) (rec u i) (rec u i)
  last-tidy i l =
      let ss : List Store = razing.post t h r.clauses k in
      rw (razing.ends_at t h r.clauses k) at
      (tidied u a ss (tidy-rids u a ss (razing.rids t h r.clauses k)) i (rw (razing.rooms-m t h r.clauses k) l))

  -- the heading is cleared, and any of the rest
  cleared-mends : (x : List ℕ) → Agrees t u x → rec x h ≡ blank → mended x ≡ u
  cleared-mends x d z = razed-mends t h r k v x d.long at
    where
      other : (i : ℕ) → i < rooms t → rec a i ≡ rec t i → (rec x i ≡ rec t i) ⊎ (rec x i ≡ rec u i) → Tidy (rec a i) (rec u i) (rec x i)
      other i l e (inl q) = inl (equal (q ∙ sym e))
      other i l e (inr q) = rw q (last-tidy i l)

      at : (i : ℕ) → i < rooms t → Tidy (rec a i) (rec u i) (rec x i)
      at i l =
          by_cases (ℕ_discrete i h)
          (λ (q : i ≡ h). inl (equal (rw q (z ∙ sym clear-there))))
          (λ (q : i ≢ h). other i l (elsewhere i l q) (d.each i l))

  -- it is not, and nothing but counts is written
  only-kind : (i : ℕ) → only_counts (rec t i) (rec u i) ≡ true → byte (rec u i) 0 ≡ 1
  only-kind i e =
      by_cases (ℕ_discrete (byte (rec u i) 0) 1) (λ (q : byte (rec u i) 0 ≡ 1). q)
      (λ (q : byte (rec u i) 0 ≢ 1). absurd (not-both e (not-only (rec t i) (rec u i) q)))

  abbrev Quiet : List ℕ → Type 0
  Quiet x = (i : ℕ) → i < rooms t → rec a i ≡ rec t i → only_counts (rec t i) (rec u i) ≡ false → rec x i ≡ rec t i

  counts-alike : (i : ℕ) → i < rooms t → only_counts (rec t i) (rec u i) ≡ true → byte (rec u i) 0 ≡ 1 → Alike (rec t i) (rec u i)
  counts-alike i l e ku =
      let m : i < rooms u = rw long l in
      let kt : byte (rec t i) 0 ≡ 1 = eqb-true _ _ (and_left (is_kind 1 (rec t i)) _ e) in
      counts (only-but (rec t i) (rec u i) (length-rec t i l) (length-rec u i m) ((r.clauses.own i l).heading kt)
      (((razed-right t h r k v).clauses.own i m).heading ku) e)

  kept-mends : (x : List ℕ) → Agrees t u x → Quiet x → rec x h ≡ rec t h → mended x ≡ t
  kept-mends x d n z = left-mends t x (sound-keeps t r) d.long at r.clauses.whole
    where
      by : (i : ℕ) → i < rooms t → i ≢ h → (only_counts (rec t i) (rec u i) ≡ true) ⊎ (only_counts (rec t i) (rec u i) ≡ false)
          → (rec x i ≡ rec t i) ⊎ (rec x i ≡ rec u i) → Left t x (rec t i) (rec x i)
      by i l q (inr e) y = ours (equal (n i l (elsewhere i l q) e))
      by i l q (inl e) (inl y) = ours (equal y)
      by i l q (inl e) (inr y) = ours (rw y (counts-alike i l e (only-kind i e)))

      at : (i : ℕ) → i < rooms t → Left t x (rec t i) (rec x i)
      at i l =
          by_cases (ℕ_discrete i h) (λ (q : i ≡ h). ours (equal (rw q z)))
          (λ (q : i ≢ h). by i l q (truth (only_counts (rec t i) (rec u i))) (d.each i l))

  -- which of the two is said by the heading
  abbrev Ends : List ℕ → Type 0
  Ends x = ((rec x h ≡ blank) × (mended x ≡ u)) ⊎ ((rec x h ≡ rec t h) × (mended x ≡ t))

  in-h : h < rooms t
  in-h = razing.in-h t h r.clauses k

  free-u : rec u h ≡ blank
  free-u = razing.free-h t h r.clauses k

  ends : (x : List ℕ) → InTwo t a u x → Ends x
  ends x (in_rest d n) = let z : rec x h ≡ blank = n h in-h heading-was ∙ clear-there in inl (z, cleared-mends x d z)
  ends x (in_heading d n) = go (d.each h in-h)
    where
      go : (rec x h ≡ rec t h) ⊎ (rec x h ≡ rec u h) → Ends x
      go (inl e) = inr (e, kept-mends x d n e)
      go (inr e) = let z : rec x h ≡ blank = e ∙ free-u in inl (z, cleared-mends x d z)

-- ---- one name of a DST

-- its heading, and the two tables
record Cleared (t a u : List ℕ) (r : Right t) : Type 0 where
  heading : ℕ
  kind : byte (rec t heading) 0 ≡ 1
  childless : with_entries t heading ≡ false
  first : a ≡ razing.m t heading r.clauses kind
  all : u ≡ razing.f t heading r.clauses kind

module _ (t : List ℕ) (r : Right t) (user done made : ℕ) (w : Word) where
  abbrev x : Planned
  x = dst_plan boxed t user (done + 1) w

  abbrev o : ℕ → Outcome
  o k = deleting (dst_plan boxed) t user [] k done made (w ∷ [])

  -- at each stop number the first of its stores
  table_at : (p : Plan) → Passed x p → (k : ℕ) → (o k).table ≡ run t (take k p.stores)
  unfolding deleting
  table_at p v k =
      by_cases (dec_le (length p.stores) k)
      (λ (l : length p.stores ≤ k). rw (passes k x p v l, take_all k p.stores l))
      (λ (l : ¬ (length p.stores ≤ k)). rw (cuts k x p v (omega arith)))

  -- granted, its checks pass
  whole : (k : ℕ) → (o k).answer.number ≡ 0 → (p : Plan) × Passed x p × (length p.stores ≤ k)
  unfolding deleting
  whole k =
      ran-by (λ y. (after y).answer.number ≡ 0 → (p : Plan) × Passed x p × (length p.stores ≤ k)) k x
      (λ f v z.
      let b : ⊥ = omega (arith, z, fair-some (λ _. w.names) f (named-refused destruction t user done w f v)) in absurd b)
      (λ p v l _. (p, v, l)) (λ p v l z. let b : ⊥ = omega (arith, z) in absurd b)
    where
      after : Ran → Outcome
      after y = one_name t [] k done made (λ t₁ k₁ n₁ made₁. deleting (dst_plan boxed) t₁ user [] k₁ n₁ made₁ []) y

  by-stores : (ss : List Store) (a u : List ℕ) → Doomed t user w ss → a ≡ run t (take 1 ss) → u ≡ run t ss → Cleared t a u r
  by-stores ss a u e p q =
      record {
        heading = h;
        kind = e.kind;
        childless = e.childless;
        first = p ∙ ap (λ (z : List Store). run t (take 1 z)) (e.stores ∙ razing.stores-are t h r.clauses e.kind) ∙ one;
        all = q ∙ ap (run t) e.stores ∙ razing.end_is t h r.clauses e.kind;
      }
    where
      h : ℕ
      h = file t e.end

      one : run t (take 1 (clear h ∷ razing.post t h r.clauses e.kind)) ≡ razing.m t h r.clauses e.kind
      one = unfold run razing.m in refl

destroyed-cleared : (t a u : List ℕ) (r : Right t) → Destroyed t a u → Cleared t a u r
destroyed-cleared t a u r d =
    let y = whole t r d.user d.done d.made d.name d.stop d.granted in
    let p : Plan = y.0 in
    by-stores t r d.user d.done d.made d.name p.stores a u (passed-doomed t r.clauses d.user (d.done + 1) d.name p y.1)
    (d.cleared ∙ table_at t r d.user d.done d.made d.name p y.1 1)
    (d.after ∙ table_at t r d.user d.done d.made d.name p y.1 d.stop ∙ ap (run t) (take_all d.stop p.stores y.2))

-- "mending x answers 0 and gives t or" u, and it is u once the heading is cleared
pub record Phases (t a u x : List ℕ) : Type 0 where
  pub either : (mended x ≡ t) ⊎ (mended x ≡ u)
  pub not_there : (i : ℕ) → i < rooms t → (rec a i ≡ rec t i → ⊥) → rec x i ≡ rec t i → mended x ≡ t
  pub there : (i : ℕ) → i < rooms t → (rec a i ≡ rec t i → ⊥) → rec x i ≡ rec a i → mended x ≡ u
  pub answers : (k : ℕ) → length (mend_stores x) ≤ k → mending boxed x k ≡ mended_whole x

module _ (t h-a h-u x : List ℕ) (r : Right t) (d : Cleared t h-a h-u r) (o : InTwo t h-a h-u x) where
  abbrev h : ℕ
  h = d.heading

  end : Ends t h r d.kind d.childless x
  end = ends t h r d.kind d.childless x (rw (d.first, d.all) at o)

  -- the one record that the first phase writes is the heading
  only : (i : ℕ) → i < rooms t → (rec h-a i ≡ rec t i → ⊥) → i ≡ h
  only i l n =
      by_cases (ℕ_discrete i h) (λ (q : i ≡ h). q)
      (λ (q : i ≢ h). absurd (n (ap (λ (z : List ℕ). rec z i) d.first ∙ elsewhere t h r d.kind d.childless i l q)))

  sound-end : Right (mended x)
  sound-end = go end
    where
      go : Ends t h r d.kind d.childless x → Right (mended x)
      go (inl e) = rw e.1 (razed-right t h r d.kind d.childless)
      go (inr e) = rw e.1 r

  phases : Phases t h-a h-u x
  phases =
      record {
        either = go-either end;
        not_there = λ i l n e. go-before end (subst (λ (j : ℕ). rec x j ≡ rec t j) (only i l n) e);
        there = λ i l n e. go-after end (subst (λ (j : ℕ). rec x j ≡ rec h-a j) (only i l n) e);
        answers = λ k. let f = right-sound (mended x) sound-end in mend-whole x k f.0 f.1;
      }
    where
      go-either : Ends t h r d.kind d.childless x → (mended x ≡ t) ⊎ (mended x ≡ h-u)
      go-either (inl e) = inr (e.1 ∙ sym d.all)
      go-either (inr e) = inl e.1

      go-before : Ends t h r d.kind d.childless x → rec x h ≡ rec t h → mended x ≡ t
      go-before (inr e) q = e.1
      go-before (inl e) q = let z : ⊥ = omega (arith, kind-blank (rec t h) (sym q ∙ e.0), d.kind) in absurd z

      go-after : Ends t h r d.kind d.childless x → rec x h ≡ rec h-a h → mended x ≡ h-u
      go-after (inl e) q = e.1 ∙ sym d.all
      go-after (inr e) q =
          let b : rec t h ≡ blank =
          sym e.0 ∙ q ∙ ap (λ (z : List ℕ). rec z h) d.first ∙ clear-there t h r d.kind d.childless in
          let z : ⊥ = omega (arith, kind-blank (rec t h) b, d.kind) in absurd z

pub destroy-on-disk : (t a u x : List ℕ) → sized t ≡ true → sound boxed t ≡ true → Destroyed t a u → InTwo t a u x → Phases t a u x
destroy-on-disk t a u x s e d o = let r = sound-right t s e in phases t a u x r (destroyed-cleared t a u r d) o
