-- Counts go by entries and lie in headings: where entries stay as they were to the counts, and each heading has the counts that it had,
-- they stay true. So they are true once corrected, and still when headings and text are cleared after that.
use mathlib.Core.Bool.{true, false}
use mathlib.Core.List.{List, [], ◌∷◌, ◌++◌}
use mathlib.Core.Logic.{◌⊎◌, inl, inr, ◌≢◌, by_cases}
use mathlib.Core.Path.{◌≡◌, refl, sym, ◌∙◌}
use Prim.Native.Nat.{ℕ, suc, ◌+◌, ◌≤◌, ◌<◌}
use native.Mathlib.Omega.{arith}
use native.Mathlib.Decide.{ℕ_discrete}
use lib.ListN.{length, take, drop, length-take, length-drop}
use lib.Seq.{get_or-take, get_or-drop, ext_get_or}
use Rattle.paper.specs.Record.{byte, directory, names, heading_named, blank}
use Rattle.paper.specs.Table.{rooms, rec, lay, text_room}
use Rattle.paper.specs.Entry.{Holder, in_directory, stands, crowd}
use Rattle.paper.specs.Block.{blocks_of}
use Rattle.paper.specs.Sound.{counts_true}
use Rattle.paper.specs.Store.{Store, clear, run}
use Rattle.paper.specs.Count.{namings, counts_right, recounts}
use Rattle.paper.specs.Effect.{freed, with_counts, lost, settled}
use Rattle.laws.proofs.Tests.{either, false-by}
use Rattle.laws.proofs.Counts.{count-cong}
use Rattle.laws.proofs.Lists.{Every, every-each, every-imp}
use Rattle.laws.proofs.Entries.{names-kind, stands-true}
use Rattle.laws.proofs.Lay.{length-blank, kind-blank, lay-same, lay-other, length-lay, within, kinds-apart}
use Rattle.laws.proofs.Runs.{Lays, run-each, run-append, length_run, rooms-run}
use Rattle.demands.proofs.Sound.Clauses.{Sound}
use Rattle.demands.proofs.Sound.Right.{Right}
use Rattle.demands.proofs.Mending.Counts.{alike-kind, counts-at, counts-here, recounts-each, recounts-true}
use Rattle.demands.proofs.PowerCut.Cut.{counted, run-counted, counted-stores}
use Rattle.demands.proofs.SoundKept.Counted.{alike-clauses, run-alike}
use Rattle.demands.proofs.SoundKept.Freed.{text-found}

-- ---- counts that stay

-- heading r has the counts of heading x
pub record SameCounts (x r : List ℕ) : Type 0 where
  pub kind : byte x 0 ≡ 1
  pub directory : directory r ≡ directory x
  pub first : take 2 (drop 12 r) ≡ take 2 (drop 12 x)
  pub second : take 2 (drop 14 r) ≡ take 2 (drop 14 x)

-- r is to the counts what x was
pub record Tells (x r : List ℕ) : Type 0 where
  pub names : (h : ℕ) → names h r ≡ names h x
  pub stands : (d : Holder) → stands d r ≡ stands d x
  pub heading : byte r 0 ≡ 1 → SameCounts x r

pub tells-same : (x r : List ℕ) → r ≡ x → Tells x r
tells-same x r e =
    rw e (record { names = λ h. refl; stands = λ d. refl; heading = λ k. record { kind = k; directory = refl; first = refl; second = refl } })

-- what is no entry names nothing and stands nowhere
no_names : (h : ℕ) (r : List ℕ) → byte r 0 ≢ 2 → names h r ≡ false
no_names h r n = false-by (names h r) (λ q. n (names-kind h r q))

no-stands : (d : Holder) (r : List ℕ) → byte r 0 ≢ 2 → stands d r ≡ false
no-stands d r n = false-by (stands d r) (λ q. n (stands-true d r q).kind)

pub tells-other : (x r : List ℕ) → byte x 0 ≢ 2 → byte r 0 ≢ 2 → (byte r 0 ≡ 1 → SameCounts x r) → Tells x r
tells-other x r n m c =
    record {
      names = λ h. no_names h r m ∙ sym (no_names h x n);
      stands = λ d. no-stands d r m ∙ sym (no-stands d x n);
      heading = c;
    }

pub tells-gone : (x r : List ℕ) → byte x 0 ≢ 2 → r ≡ blank → Tells x r
tells-gone x r n e =
    let k : byte r 0 ≡ 0 = kind-blank r e in
    tells-other x r n (λ (z : byte r 0 ≡ 2). omega arith) (λ (z : byte r 0 ≡ 1). let y : ⊥ = omega arith in absurd y)

-- a heading laid again whose type and counts stay, byte by byte
module _ (x r : List ℕ) (lx : length x ≡ 32) (lr : length r ≡ 32) (k : byte x 0 ≡ 1)
    (low : (j : ℕ) → j < 2 → byte r j ≡ byte x j) (high : (j : ℕ) → 12 ≤ j → j < 16 → byte r j ≡ byte x j) where
  two-same : (j : ℕ) → 12 ≤ j → j + 2 ≤ 16 → take 2 (drop j r) ≡ take 2 (drop j x)
  two-same j a b =
      ext_get_or 0 (take 2 (drop j r)) (take 2 (drop j x)) (simp (length-take, length-drop, lr, lx)) (λ i l.
      let m : i < 2 = omega (arith, simp (length-take, length-drop, lr) at l) in
      rw (get_or-take 2 (drop j r) i 0 m, get_or-take 2 (drop j x) i 0 m, get_or-drop j r i 0, get_or-drop j x i 0) (high (j + i) (omega arith) (omega arith)))

  pub same-counts : SameCounts x r
  same-counts =
      record {
        kind = k;
        directory = rw (low 0 (omega arith), low 1 (omega arith));
        first = two-same 12 (omega arith) (omega arith);
        second = two-same 14 (omega arith) (omega arith);
      }

  pub tells-heading : Tells x r
  tells-heading =
      let q : byte r 0 ≡ 1 = low 0 (omega arith) ∙ k in
      tells-other x r (λ (z : byte x 0 ≡ 2). omega arith) (λ (z : byte r 0 ≡ 2). omega arith) (λ _. same-counts)

module _ (t f : List ℕ) (e : length f ≡ length t) (h : (i : ℕ) → i < rooms t → Tells (rec t i) (rec f i)) where
  namings-kept : (n : ℕ) → namings f n ≡ namings t n
  unfolding namings
  namings-kept n = rw e (count-cong _ _ (rooms t) (λ i l. (h i l).names n))

  crowd-kept : (d : Holder) → crowd f d ≡ crowd t d
  unfolding crowd
  crowd-kept d = rw e (count-cong _ _ (rooms t) (λ i l. (h i l).stands d))

  pub counts-kept : counts_true t ≡ true → counts_true f ≡ true
  unfolding counts_right
  counts-kept c = counts-here f (λ i l k. at i (rw e at l) ((h i (rw e at l)).heading k))
    where
      at : (i : ℕ) → i < rooms t → SameCounts (rec t i) (rec f i) → counts_right f i (rec f i) ≡ true
      at i l s = rw (namings-kept i, crowd-kept (in_directory i), s.directory, s.first, s.second) (counts-at t c i l s.kind)

-- one record laid again
pub replaced-true : (t : List ℕ) (e : ℕ) (r : List ℕ) → e < rooms t → length r ≡ 32 → Tells (rec t e) r → counts_true t ≡ true → counts_true (lay t e r) ≡ true
replaced-true t e r l s h =
    counts-kept t (lay t e r) (length-lay t e r)
    (λ i m.
    by_cases (ℕ_discrete i e) (λ (q : i ≡ e). rw (q, lay-same t e r s l) h)
    (λ (q : i ≢ e). tells-same (rec t i) (rec (lay t e r) i) (lay-other t e r i s q m)))

-- headings and text cleared
abbrev pub Gone : List ℕ → ℕ → List ℕ → Type 0
Gone t i r = (r ≡ blank) × (byte (rec t i) 0 ≢ 2)

pub gone-true : (t : List ℕ) (ss : List Store) → Every (Lays (Gone t) (rooms t)) ss → counts_true t ≡ true → counts_true (run t ss) ≡ true
gone-true t ss h = counts-kept t (run t ss) (length_run t ss) (λ i l. go i (run-each (Gone t) t ss h i l))
  where
    go : (i : ℕ) → (rec (run t ss) i ≡ rec t i) ⊎ Gone t i (rec (run t ss) i) → Tells (rec t i) (rec (run t ss) i)
    go i (inl e) = tells-same (rec t i) (rec (run t ss) i) e
    go i (inr g) = tells-gone (rec t i) (rec (run t ss) i) g.1 g.0

-- ---- an entry's store, the counts, and what is cleared then

module _ (t : List ℕ) (pre : List Store) (s : Store) (last : List Store) where
  abbrev m : List ℕ
  m = counted t pre s

  abbrev n : List ℕ
  n = run m (recounts m)

  after-counts : run t (with_counts t (pre ++ s ∷ []) ++ last) ≡ run n last
  after-counts = rw (counted-stores t pre s last) (run-counted t pre s (recounts m ++ last) ∙ run-append m (recounts m) last)

  -- sound without the counts, the table is sound with them
  pub counted-right : Every (Lays (Gone m) (rooms m)) last → Sound (run t (pre ++ s ∷ last)) → Right (run t (with_counts t (pre ++ s ∷ []) ++ last))
  counted-right g c = rw after-counts (record { clauses = clauses; counts = gone-true n last still (recounts-true m) })
    where
      clauses : Sound (run n last)
      clauses =
          alike-clauses 65535 (run m last) (run n last) (rw (run-counted t pre s last) at c)
          (length_run n last ∙ length_run m (recounts m) ∙ sym (length_run m last))
          (run-alike m n last (length_run m (recounts m)) (recounts-each m)
          (every-imp _ _ last (λ x l. (l.within, l.size)) g))

      still : Every (Lays (Gone n) (rooms n)) last
      still =
          every-imp (Lays (Gone m) (rooms m)) (Lays (Gone n) (rooms n)) last
          (λ x l.
          record {
            within = rw (rooms-run m (recounts m)) l.within;
            size = l.size;
            holds = (l.holds.0, rw (alike-kind (rec m x.at) (rec n x.at) (recounts-each m x.at l.within)) l.holds.1);
          }) g

-- what an entry displaced or cleared leaves behind is no entry
module _ (t : List ℕ) (c : Sound t) (e : ℕ) (r : List ℕ) (l : e < rooms t) (k : byte (rec t e) 0 ≡ 2) (m : List ℕ) (same : rooms m ≡ rooms t)
    (stays : (j i : ℕ) → i ≢ e → byte (rec t i) 0 ≡ suc j → rec m i ≡ rec t i) where
  abbrev h : ℕ
  h = heading_named (rec t e)

  kh : byte (rec t h) 0 ≡ 1
  kh = c.targets e l k

  gone : (i j : ℕ) → i < rooms t → byte (rec t i) 0 ≡ suc j → suc j ≢ 2 → Lays (Gone m) (rooms m) (clear i)
  gone i j b q d =
      let s : rec m i ≡ rec t i = stays j i (kinds-apart t i e (suc j) 2 q k d) q in
      record { within = rw same b; size = length-blank; holds = (refl, rw (s, q) d) }

  pub settled-gone : Every (Lays (Gone m) (rooms m)) (settled t e r)
  unfolding settled freed
  settled-gone =
      either (Every (Lays (Gone m) (rooms m))) (lost t e r) (freed t h) [] (
        gone h 0 (within t h c.whole (omega (arith, kh))) kh (omega arith),
        every-each _ _ (blocks_of t h) (λ p b. let g = text-found 65535 t h c kh p b in gone (text_room t h p) 2 g.0 g.1.kind (omega arith)),
      ) tt
