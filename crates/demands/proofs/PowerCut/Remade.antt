-- A rewrite that is cut: between the first store, which marks the file, and the last, which unmarks it, the table is that with the file
-- marked and empty and with text of it, old or new, in records that are free there; and mending clears the text of a marked file.
use mathlib.Core.Bool.{true, false}
use mathlib.Core.List.{List, [], ◌∷◌, ◌++◌}
use mathlib.Core.Logic.{◌⊎◌, inl, inr, ◌≢◌, by_cases}
use mathlib.Core.Path.{◌≡◌, refl, sym, ◌∙◌}
use Prim.Native.Nat.{ℕ, zero, suc, ◌≤◌, ◌<◌}
use native.Mathlib.Omega.{arith}
use native.Mathlib.Decide.{ℕ_discrete}
use lib.ListN.{length, take, length-append}
use lib.Seq.{take-append-le, take_all}
use borrow.Author.Tests.{eq-eqb}
use Rattle.paper.specs.Record.{byte, is_kind, simple, heading_of, rewritten, blank}
use Rattle.paper.specs.Table.{rooms, rec, lay}
use Rattle.paper.specs.Sound.{counts_true}
use Rattle.paper.specs.Store.{Store, puts, run}
use Rattle.paper.specs.Effect.{bared, emptying, emptied, laying, rewriting}
use Rattle.paper.specs.Mend.{keeps_text, mended}
use Rattle.laws.proofs.Tests.{and-no-right, not-both, and_both}
use Rattle.laws.proofs.Lists.{Every, every_append, every-imp, every_take}
use Rattle.laws.proofs.Rewritten.{length-rewritten, rewritten-byte, rewritten-mark, rewritten-twice}
use Rattle.laws.proofs.Lay.{lay-same, lay-other, length-lay, rooms-lay, ext-table}
use Rattle.laws.proofs.Runs.{Lays, run-each, length_run, rooms-run}
use Rattle.demands.proofs.Sound.Clauses.{Sound}
use Rattle.demands.proofs.SoundKept.Retexted.{Mine, none, some}
use Rattle.demands.proofs.SoundKept.Emptied.{Medium, in-h, size-h, head-type, Emptied, heading, text, other, emptied-by, emptied-heading, emptied-sound}
use Rattle.demands.proofs.SoundKept.Refilled as filled
use Rattle.demands.proofs.SoundKept.Refilled.{Rewrite, Look, look, old, room-free, no_text, text_at_lem, heading-there, last-kind, refilled-sound}
use Rattle.demands.proofs.SoundKept.Told.{emptied-right, refilled-right}
use Rattle.demands.proofs.SoundKept.Rewriting.{each-bared, each_laid}
use Rattle.demands.proofs.Mending.Part.{equal, Kept}
use Rattle.demands.proofs.Mending.Debris.{Once, sound-keeps, mended-sound, laid, Left, ours, litter, body, left-mends, left-once}

-- x is the table with the file marked and empty, and in free records of it text of that file
abbrev pub HalfAt : List ℕ → ℕ → List ℕ → ℕ → Type 0
HalfAt t h x i = (rec x i ≡ rec (emptied t h) i) ⊎ ((rec (emptied t h) i ≡ blank) × ((byte (rec x i) 0 ≡ 3) × (heading_of (rec x i) ≡ h)))

pub record Half (t : List ℕ) (h : ℕ) (x : List ℕ) : Type 0 where
  pub long : length x ≡ length t
  pub each : (i : ℕ) → i < rooms t → HalfAt t h x i

module _ (t : List ℕ) (h : ℕ) (c : Sound t) (f : Medium t h) where
  -- a marked file keeps no text
  keeps-no : keeps_text (rec (emptied t h) h) ≡ false
  unfolding keeps_text
  keeps-no = rw (emptied-heading t h c f) (and-no-right (simple (rewritten (rec t h) 1 0)) _ (rw (rewritten-mark (rec t h) 1 0 (size-h t h c f))))

  half-left : (x : List ℕ) → Half t h x → (i : ℕ) → i < rooms (emptied t h) → Left (emptied t h) x (rec (emptied t h) i) (rec x i)
  half-left x d i l = go (d.each i (rw (rooms-run t (emptying t h)) at l))
    where
      go : HalfAt t h x i → Left (emptied t h) x (rec (emptied t h) i) (rec x i)
      go (inl e) = ours (equal e)
      go (inr (z, (k, e))) = litter z (laid (body k (rw e keeps-no)))

  half-kept : counts_true t ≡ true → Kept (emptied t h)
  half-kept q = sound-keeps (emptied t h) (emptied-right t h (record { clauses = c; counts = q }) f)

  pub half-mends : counts_true t ≡ true → (x : List ℕ) → Half t h x → mended x ≡ emptied t h
  half-mends q x d =
      left-mends (emptied t h) x (half-kept q) (d.long ∙ sym (length_run t (emptying t h))) (half-left x d) (emptied-sound t h c f).whole

  -- in one round
  pub half-once : counts_true t ≡ true → (x : List ℕ) → Half t h x → Once x
  half-once q x d =
      left-once (emptied t h) x (half-kept q) (d.long ∙ sym (length_run t (emptying t h))) (half-left x d) (emptied-sound t h c f).whole

  -- the heading marked, and nothing else done
  abbrev marked-t : List ℕ
  marked-t = lay t h (rewritten (rec t h) 1 0)

  marked-half : Half t h marked-t
  marked-half = record { long = length-lay t h _; each = at }
    where
      size : length (rewritten (rec t h) 1 0) ≡ 32
      size = length-rewritten (rec t h) 1 0 (size-h t h c f)

      go : (i : ℕ) → i ≢ h → rec marked-t i ≡ rec t i → Emptied t h c f i → HalfAt t h marked-t i
      go i d q (heading e z) = absurd (d e)
      go i d q (text k e z) = inr (z, (rw q k, rw q e))
      go i d q (other o e z) = inl (q ∙ sym z)

      at : (i : ℕ) → i < rooms t → HalfAt t h marked-t i
      at i l =
          by_cases (ℕ_discrete i h)
          (λ (e : i ≡ h). inl (rw (e, lay-same t h (rewritten (rec t h) 1 0) size (in-h t h c f)) (sym (emptied-heading t h c f))))
          (λ (d : i ≢ h). go i d (lay-other t h (rewritten (rec t h) 1 0) i size d l) (emptied-by t h c f i l))

module _ (t : List ℕ) (h : ℕ) (new : List ℕ) (c : Sound t) (w : Rewrite t h new) where
  -- all text, old and new
  abbrev pub texts : List Store
  texts = bared t h ++ laying (emptied t h) h new

  pub texts-each : Every (Lays (λ i r. (rec (emptied t h) i ≡ blank) × Mine h r) (rooms t)) texts
  texts-each =
      every_append _ (bared t h) _
      (every-imp _ _ (bared t h) (λ s l. record { within = l.within; size = l.size; holds = (l.holds.0.0, none l.holds.1) })
      (each-bared t h new c w))
      (every-imp _ _ (laying (emptied t h) h new)
      (λ s l. record { within = l.within; size = l.size; holds = (l.holds.0.0, some l.holds.1.0 l.holds.1.1) })
      (each_laid t h new c w))

  pub stores-are : rewriting t h new ≡ puts h (rewritten (rec t h) 1 0) ∷ texts ++ puts h (rewritten (rec t h) 0 (length new)) ∷ []
  unfolding rewriting emptying
  stores-are = refl

  -- the file marked, and any of those stores made, in any order
  pub half-way : (ss : List Store) → Every (Lays (λ i r. (rec (emptied t h) i ≡ blank) × Mine h r) (rooms t)) ss → Half t h (run (marked-t t h c w.file) ss)
  half-way ss d =
      record {
        long = length_run m ss ∙ length-lay t h _;
        each = λ i l. go i (begun.each i l) (run-each (λ i r. (rec (emptied t h) i ≡ blank) × Mine h r) m ss (rw rooms-m d) i (rw rooms-m l));
      }
    where
      m : List ℕ
      m = marked-t t h c w.file

      rooms-m : rooms m ≡ rooms t
      rooms-m = rooms-lay t h (rewritten (rec t h) 1 0)

      begun : Half t h m
      begun = marked-half t h c w.file

      go : (i : ℕ) → HalfAt t h m i → (rec (run m ss) i ≡ rec m i) ⊎ ((rec (emptied t h) i ≡ blank) × Mine h (rec (run m ss) i)) → HalfAt t h (run m ss) i
      go i (inl a) (inl e) = inl (e ∙ a)
      go i (inr a) (inl e) = inr (a.0, (rw e a.1.0, rw e a.1.1))
      go i a (inr (z, none e)) = inl (e ∙ sym z)
      go i a (inr (z, some k e)) = inr (z, (k, e))

  -- ---- cut after k stores

  pub cut-first : counts_true t ≡ true → mended (run t (take 0 (rewriting t h new))) ≡ t
  unfolding run
  cut-first q = mended-sound t (record { clauses = c; counts = q })

  pub half-cut : (k : ℕ) → 1 ≤ k → k < length (rewriting t h new) → Half t h (run t (take k (rewriting t h new)))
  unfolding run
  half-cut zero l m = let z : ⊥ = omega arith in absurd z
  half-cut (suc j) l m =
      rw (stores-are, take-append-le j texts (puts h (rewritten (rec t h) 0 (length new)) ∷ []) few)
      (half-way (take j texts) (every_take _ j texts texts-each))
    where
      few : j ≤ length texts
      few = let n : suc j < length (puts h (rewritten (rec t h) 1 0) ∷ texts ++ puts h (rewritten (rec t h) 0 (length new)) ∷ []) = rw stores-are at m in
          omega (arith, length-append texts (puts h (rewritten (rec t h) 0 (length new)) ∷ []), n)

  pub cut-half : counts_true t ≡ true → (k : ℕ) → 1 ≤ k → k < length (rewriting t h new) → mended (run t (take k (rewriting t h new))) ≡ emptied t h
  cut-half q k l m = half-mends t h c w.file q _ (half-cut k l m)

  pub half-round : counts_true t ≡ true → (k : ℕ) → 1 ≤ k → k < length (rewriting t h new) → Once (run t (take k (rewriting t h new)))
  half-round q k l m = half-once t h c w.file q _ (half-cut k l m)

  pub cut-last : counts_true t ≡ true → (k : ℕ) → length (rewriting t h new) ≤ k → mended (run t (take k (rewriting t h new))) ≡ run t (rewriting t h new)
  cut-last q k l =
      rw (take_all k (rewriting t h new) l)
      (mended-sound (run t (rewriting t h new)) (refilled-right t h new (record { clauses = c; counts = q }) w))

  -- ---- "after with that one file marked and empty": it is the same table from before and from after

  pub after-medium : Medium (run t (rewriting t h new)) h
  after-medium =
      record {
        kind = rw (heading-there t h new c w) (last-kind t h new c w);
        type = rw (heading-there t h new c w) (head-type t h c w.file 0 (length new) w.short);
        lifetime =
            rw (heading-there t h new c w)
            (rewritten-byte (rec t h) 0 (length new) 4 (omega arith, inl (omega arith)) ∙ w.file.lifetime);
      }

  pub emptied-again : emptied (run t (rewriting t h new)) h ≡ emptied t h
  emptied-again =
      ext-table (emptied g h) (emptied t h) (length_run g _ ∙ length_run t _ ∙ sym (length_run t (emptying t h)))
      (emptied-sound g h sound-g after-medium).whole
      (λ i l.
      let m : i < rooms t = rw (length_run g (emptying g h), length_run t (rewriting t h new)) at l in
      same i m (emptied-by g h sound-g after-medium i (rw (length_run t (rewriting t h new)) m)) (look t h new c w i m))
    where
      g : List ℕ
      g = run t (rewriting t h new)

      sound-g : Sound g
      sound-g = refilled-sound t h new c w

      same : (i : ℕ) → i < rooms t → Emptied g h sound-g after-medium i → Look t h new c w i → rec (emptied g h) i ≡ rec (emptied t h) i
      same i l (heading e q) y =
          q ∙ rw (heading-there t h new c w, e) (rewritten-twice (rec t h) 0 (length new) 1 0 (size-h t h c w.file) ∙ sym (emptied-heading t h c w.file))
      same i l (text k e q) (filled.heading a z) =
          let y : byte (rewritten (rec t h) 0 (length new)) 0 ≡ 3 = rw z at k in let x : ⊥ = omega (arith, last-kind t h new c w) in absurd x
      same i l (text k e q) (filled.body p b a z) = q ∙ sym (rw a (room-free t h new c w p b))
      same i l (text k e q) (old a z) = absurd (no_text t h new c w i l (rw z at k) (rw z at e))
      same i l (other o e q) (filled.heading a z) = absurd (o a)
      same i l (other o e q) (filled.body p b a z) =
          let y = text_at_lem t h new c w p b in
          absurd (not-both (and_both (is_kind 3 (rec g i)) _ (eq-eqb (byte (rec g i) 0) 3 (rw z y.kind))
          (eq-eqb (heading_of (rec g i)) h (rw z y.heading))) e)
      same i l (other o e q) (old a z) = q ∙ z
