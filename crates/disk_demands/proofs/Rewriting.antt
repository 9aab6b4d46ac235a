-- A rewrite on a disk: the heading marked, a flush, all text, old and new, in any order, a flush, the heading unmarked. The first and the
-- last phase are one record each; between them every part of the text is text of a marked file, and mends away.
use mathlib.Core.Bool.{true}
use mathlib.Core.List.{List, [], ◌∷◌, ◌++◌}
use mathlib.Core.Logic.{◌⊎◌, inl, inr, ◌≢◌, by_cases}
use mathlib.Core.Path.{◌≡◌, refl, sym, ◌∙◌}
use Prim.Native.Nat.{ℕ, suc, ◌-◌, ◌≤◌, ◌<◌}
use native.Mathlib.Omega.{arith}
use native.Mathlib.Decide.{ℕ_discrete}
use lib.ListN.{length, take, length-append}
use lib.Seq.{take-append_seam}
use Rattle.paper.specs.Record.{rewritten}
use Rattle.paper.specs.Layout.{boxed}
use Rattle.paper.specs.Table.{sized, rooms, rec, lay}
use Rattle.paper.specs.Sound.{sound}
use Rattle.paper.specs.Walk.{file}
use Rattle.paper.specs.Store.{puts, run}
use Rattle.paper.specs.Effect.{emptied, rewriting}
use Rattle.paper.specs.Mend.{mend_stores, mended}
use Rattle.paper.specs.Answer.{mending}
use Rattle.laws.proofs.Rewritten.{length-rewritten}
use Rattle.laws.proofs.Lay.{Whole, lay-other, length-lay, ext-table}
use Rattle.laws.proofs.Runs.{run-append}
use Rattle.demands.proofs.Sound.Clauses.{Sound}
use Rattle.demands.proofs.Sound.Right.{Right, sound-right, right-sound}
use Rattle.demands.proofs.Mending.{mended_whole, mend-whole}
use Rattle.demands.proofs.Mending.Debris.{mended-sound}
use Rattle.demands.proofs.SoundKept.Emptied.{in-h, size-h}
use Rattle.demands.proofs.SoundKept.Refilled.{Rewrite}
use Rattle.demands.proofs.SoundKept.Told.{emptied-right, refilled-right}
use Rattle.demands.proofs.PowerCut.Remade.{HalfAt, Half, half-mends, texts, texts-each, stores-are, half-way, emptied-again}
use Rattle.demands.proofs.Rewrites.{Rewrote, rewrote}
use Rattle.disk.specs.Disk.{Agrees, Rewritten}

-- what agrees with a table and with that table with one record laid is one of them
one-record : (p : List ℕ) (h : ℕ) (r x : List ℕ) → Whole p → h < rooms p → length r ≡ 32 → Agrees p (lay p h r) x → (x ≡ p) ⊎ (x ≡ lay p h r)
one-record p h r x w l n d = go (d.each h l)
  where
    other : (i : ℕ) → i < rooms p → i ≢ h → rec x i ≡ rec p i
    other i m o = by (d.each i m)
      where
        by : (rec x i ≡ rec p i) ⊎ (rec x i ≡ rec (lay p h r) i) → rec x i ≡ rec p i
        by (inl e) = e
        by (inr e) = e ∙ lay-other p h r i n o m

    go : (rec x h ≡ rec p h) ⊎ (rec x h ≡ rec (lay p h r) h) → (x ≡ p) ⊎ (x ≡ lay p h r)
    go (inl e) =
        inl (ext-table x p d.long (rw d.long w) (λ i m. by_cases (ℕ_discrete i h) (λ (q : i ≡ h). rw q e) (other i (rw d.long at m))))
    go (inr e) =
        inr (ext-table x (lay p h r) (d.long ∙ sym (length-lay p h r)) (rw d.long w) (λ i m. by_cases (ℕ_discrete i h) (λ (q : i ≡ h). rw q e)
        (λ (q : i ≢ h). let b : i < rooms p = rw d.long at m in other i b q ∙ sym (lay-other p h r i n q b))))

-- any part of the text, old and new
half-between : (t : List ℕ) (h : ℕ) (a b x : List ℕ) → Half t h a → Half t h b → Agrees a b x → Half t h x
half-between t h a b x p q d = record { long = d.long ∙ p.long; each = λ i l. go i (p.each i l) (q.each i l) (d.each i (rw p.long l)) }
  where
    by : (i : ℕ) (y : List ℕ) → rec x i ≡ rec y i → HalfAt t h y i → HalfAt t h x i
    by i y e (inl z) = inl (e ∙ z)
    by i y e (inr z) = inr (z.0, (rw e z.1.0, rw e z.1.1))

    go : (i : ℕ) → HalfAt t h a i → HalfAt t h b i → (rec x i ≡ rec a i) ⊎ (rec x i ≡ rec b i) → HalfAt t h x i
    go i y z (inl e) = by i a e y
    go i y z (inr e) = by i b e z

-- ---- the three steps of a rewrite

module _ (t : List ℕ) (h : ℕ) (new : List ℕ) (right : Right t) (w : Rewrite t h new) where
  abbrev c : Sound t
  c = right.clauses

  -- the heading marked; all text; the heading unmarked
  abbrev mark : List ℕ
  mark = rewritten (rec t h) 1 0

  abbrev end : List ℕ
  end = rewritten (rec t h) 0 (length new)

  abbrev a : List ℕ
  a = lay t h mark

  abbrev b : List ℕ
  b = run a (texts t h new c w)

  first-is : run t (take 1 (rewriting t h new)) ≡ a
  unfolding run
  first-is = rw (stores-are t h new c w)

  most-are : run t (take (length (rewriting t h new) - 1) (rewriting t h new)) ≡ b
  unfolding run
  most-are =
      let e : length (puts h mark ∷ texts t h new c w ++ puts h end ∷ []) - 1 ≡ suc (length (texts t h new c w)) =
      omega (arith, length-append (texts t h new c w) (puts h end ∷ [])) in
      rw (stores-are t h new c w, e, take-append_seam (texts t h new c w) (puts h end ∷ []))

  last-is : run t (rewriting t h new) ≡ lay b h end
  unfolding run
  last-is = rw (stores-are t h new c w) (run-append a (texts t h new c w) (puts h end ∷ []))

  half-a : Half t h a
  unfolding run
  half-a = half-way t h new c w [] tt

  half-b : Half t h b
  half-b = half-way t h new c w (texts t h new c w) (texts-each t h new c w)

  mends-half : (x : List ℕ) → Half t h x → mended x ≡ emptied t h
  mends-half = half-mends t h c w.file right.counts

  marking : (x : List ℕ) → Agrees t a x → (mended x ≡ t) ⊎ (mended x ≡ emptied t h)
  marking x d = go (one-record t h mark x c.whole (in-h t h c w.file) (length-rewritten (rec t h) 1 0 (size-h t h c w.file)) d)
    where
      go : (x ≡ t) ⊎ (x ≡ a) → (mended x ≡ t) ⊎ (mended x ≡ emptied t h)
      go (inl e) = inl (rw e (mended-sound t right))
      go (inr e) = inr (rw e (mends-half a half-a))

  laying-text : (x : List ℕ) → Agrees a b x → mended x ≡ emptied t h
  laying-text x d = mends-half x (half-between t h a b x half-a half-b d)

  unmarking : (x : List ℕ) → Agrees b (lay b h end) x → (mended x ≡ emptied t h) ⊎ (mended x ≡ run t (rewriting t h new))
  unmarking x d =
      go (one-record b h end x (rw half-b.long c.whole) (rw half-b.long (in-h t h c w.file))
      (length-rewritten (rec t h) 0 (length new) (size-h t h c w.file)) d)
    where
      go : (x ≡ b) ⊎ (x ≡ lay b h end) → (mended x ≡ emptied t h) ⊎ (mended x ≡ run t (rewriting t h new))
      go (inl e) = inl (rw e (mends-half b half-b))
      go (inr e) = inr (rw (e, ← last-is) (mended-sound (run t (rewriting t h new)) (refilled-right t h new right w)))

-- the three phases: what the disk may hold in each, mended; "that one file marked and empty" is the same table from before and from after
pub record Phases (t a b u : List ℕ) : Type 0 where
  pub heading : ℕ
  pub half : List ℕ
  pub from-before : half ≡ emptied t heading
  pub from-after : half ≡ emptied u heading
  pub marks : (x : List ℕ) → Agrees t a x → (mended x ≡ t) ⊎ (mended x ≡ half)
  pub text : (x : List ℕ) → Agrees a b x → mended x ≡ half
  pub unmarks : (x : List ℕ) → Agrees b u x → (mended x ≡ half) ⊎ (mended x ≡ u)
  -- mending answers 0
  pub answers : (x : List ℕ) → (mended x ≡ t) ⊎ ((mended x ≡ half) ⊎ (mended x ≡ u)) → (k : ℕ) → length (mend_stores x) ≤ k → mending boxed x k ≡ mended_whole x

pub rewrite-on-disk : (t a b u : List ℕ) → sized t ≡ true → sound boxed t ≡ true → Rewritten t a b u → Phases t a b u
rewrite-on-disk t a₀ b₀ u₀ s e r =
    record {
      heading = h;
      half = emptied t h;
      from-before = refl;
      from-after = sym (rw is-u (emptied-again t h r.text c.clauses g.fit));
      marks = λ x d. marking t h r.text c g.fit x (rw is-a at d);
      text = λ x d. laying-text t h r.text c g.fit x (rw (is-a, is_b) at d);
      unmarks = λ x d. rw is-u (unmarking t h r.text c g.fit x (rw (is_b, is-u, last-is t h r.text c g.fit) at d));
      answers = λ x d k. let f = right-sound (mended x) (ends x d) in mend-whole x k f.0 f.1;
    }
  where
    c : Right t
    c = sound-right t s e

    g : Rewrote t r.line r.text r.reply r.user r.stop r.name
    g = rewrote t r.line r.text r.reply r.user r.stop r.name s e r.asked r.granted

    h : ℕ
    h = file t g.end

    is-a : a₀ ≡ a t h r.text c g.fit
    is-a = r.marked ∙ g.tables 1 ∙ first-is t h r.text c g.fit

    is_b : b₀ ≡ b t h r.text c g.fit
    is_b = r.texts ∙ g.tables _ ∙ rw g.stores (most-are t h r.text c g.fit)

    is-u : u₀ ≡ run t (rewriting t h r.text)
    is-u = r.after ∙ g.table

    ends : (x : List ℕ) → (mended x ≡ t) ⊎ ((mended x ≡ emptied t h) ⊎ (mended x ≡ u₀)) → Right (mended x)
    ends x (inl q) = rw q c
    ends x (inr (inl q)) = rw q (emptied-right t h c g.fit.file)
    ends x (inr (inr q)) = rw (q, is-u) (refilled-right t h r.text c g.fit)
