-- Counts and the clauses: headings that differ in their counts alone owe the same and are the same to every other record, so a table's
-- clauses hold where its records are alike; and the same stores on tables alike in every record leave such tables.
use mathlib.Core.Bool.{false}
use mathlib.Core.List.{List, [], ◌∷◌}
use mathlib.Core.Logic.{◌≢◌, by_cases}
use mathlib.Core.Path.{◌≡◌, sym, ap, ◌∙◌}
use Prim.Native.Nat.{ℕ, ◌+◌, ◌≤◌, ◌<◌}
use native.Mathlib.Omega.{arith}
use native.Mathlib.Decide.{ℕ_discrete}
use lib.ListN.{length, get_or, drop}
use lib.Seq.{get_or-take, get_or-drop}
use lib.Dec.{eqb}
use borrow.Author.Tests.{ne_eqb}
use Rattle.paper.specs.Record.{byte, heading_type, text_length, directory, zeros}
use Rattle.paper.specs.Layout.{name_of, boxed}
use Rattle.paper.specs.Table.{rooms, rec, lay}
use Rattle.paper.specs.Entry.{Holder, holder, bears}
use Rattle.paper.specs.Sound.{implies}
use Rattle.paper.specs.Store.{Store, run}
use Rattle.paper.specs.Count.{recounts}
use Rattle.laws.proofs.Numbers.{number-cong}
use Rattle.laws.proofs.Scans.{all-cong}
use Rattle.laws.proofs.Lists.{Every}
use Rattle.laws.proofs.Entries.{bears-stands}
use Rattle.laws.proofs.Lay.{lay-same, lay-other, length-lay, rooms-lay}
use Rattle.laws.proofs.Runs.{length_run}
use Rattle.demands.proofs.Sound.Clauses.{HeadingOwn, Own, SoundBut, Sound}
use Rattle.demands.proofs.Sound.Right.{Right}
use Rattle.demands.proofs.SoundKept.Alike.{Like, like-same, alike-sound}
use Rattle.demands.proofs.SoundKept.Built.{heading-own}
use Rattle.demands.proofs.Mending.Part.{ButCounts, Alike, equal, counts}
use Rattle.demands.proofs.Mending.Counts.{but-byte, but-kind, alike-kind, alike_same, alike-entry, recounts-each, recounts-true}

-- ---- a heading with other counts

module _ (x r : List ℕ) (b : ButCounts x r) where
  zeros-front : (j n : ℕ) → j + n ≤ 12 → zeros j n r ≡ zeros j n x
  unfolding zeros
  zeros-front j n l = all-cong _ _ n (λ i m. rw (but-byte x r b (j + i) (omega arith)))

  zeros-file : directory x ≡ false → zeros 14 2 r ≡ zeros 14 2 x
  unfolding zeros
  zeros-file e =
      all-cong _ _ 2 (λ i m.
      let q : byte r (14 + i) ≡ byte x (14 + i) =
      sym (get_or-drop 14 r i 0) ∙ sym (get_or-take 2 (drop 14 r) i 0 m) ∙ ap (λ (s : List ℕ). get_or s i 0) (b.file e)
      ∙ get_or-take 2 (drop 14 x) i 0 m ∙ get_or-drop 14 x i 0 in
      rw q)

  zeros-back : zeros 16 16 r ≡ zeros 16 16 x
  unfolding zeros
  zeros-back =
      all-cong _ _ 16 (λ i m.
      let q : byte r (16 + i) ≡ byte x (16 + i) = sym (get_or-drop 16 r i 0) ∙ ap (λ (s : List ℕ). get_or s i 0) b.back ∙ get_or-drop 16 x i 0 in
      rw q)

  file-same : implies (eqb (heading_type x) 1) (zeros 14 2 r) ≡ implies (eqb (heading_type x) 1) (zeros 14 2 x)
  file-same =
      by_cases (ℕ_discrete (heading_type x) 1) (λ (q : heading_type x ≡ 1). rw (zeros-file (rw (b.kind, q))))
      (λ (q : heading_type x ≢ 1). rw (ne_eqb (heading_type x) 1 q))

  but-length : text_length r ≡ text_length x
  but-length = number-cong 2 r x 10 10 (λ i m. but-byte x r b (10 + i) (omega arith))

  at : (j : ℕ) → j < 12 → byte r j ≡ byte x j
  at = but-byte x r b

  but-owes : HeadingOwn x → HeadingOwn r
  but-owes o =
      record {
        shape =
            rw (at 1 (omega arith), at 2 (omega arith), at 3 (omega arith), at 4 (omega arith), at 5 (omega arith), but-length)
            (rw (zeros-front 6 4 (omega arith), file-same, zeros-back) o.shape);
        directory = rw (at 1 (omega arith), at 4 (omega arith), but-length) o.directory;
        simple = rw (at 1 (omega arith), but-length) o.simple;
      }

  but-like : Like x r
  but-like =
      record {
        kind = but-kind x r b;
        heading = λ _. record { type = at 1 (omega arith); length = but-length };
        entry = λ (q : byte x 0 ≡ 2). let z : ⊥ = omega (arith, b.kind) in absurd z;
        text = λ (q : byte x 0 ≡ 3). let z : ⊥ = omega (arith, b.kind) in absurd z;
      }

alike-like : (x r : List ℕ) → Alike x r → Like x r
alike-like x r (equal e) = rw e (like-same x)
alike-like x r (counts b) = but-like x r b

alike-own : (x r : List ℕ) → Alike x r → Own x → Own r
alike-own x r (equal e) o = rw e o
alike-own x r (counts b) o = heading-own r (but-kind x r b ∙ b.kind) (but-owes x r b (o.heading b.kind))

-- ---- tables alike in every record

abbrev pub EachAlike : (u v : List ℕ) → Type 0
EachAlike u v = (i : ℕ) → i < rooms u → Alike (rec u i) (rec v i)

-- the clauses hold of both
module _ (o : ℕ) (t f : List ℕ) (c : SoundBut o t) (long : length f ≡ length t) (each : EachAlike t f) where
  same-entry : (i : ℕ) → i < rooms t → byte (rec f i) 0 ≡ 2 → rec f i ≡ rec t i
  same-entry i l k =
      alike_same (rec t i) (rec f i) (each i l)
      (let q : byte (rec t i) 0 ≡ 2 = sym (alike-kind (rec t i) (rec f i) (each i l)) ∙ k in rw q)

  same-bears : (d : Holder) (n : List ℕ) (i : ℕ) → i < rooms t → bears boxed d n (rec f i) ≡ bears boxed d n (rec t i)
  same-bears d n i l = alike-entry (bears boxed d n) (λ r e. (bears-stands d n r e).kind) (rec t i) (rec f i) (each i l)

  pub alike-clauses : SoundBut o f
  alike-clauses =
      alike-sound o t f c
      (record {
        long = long;
        each = λ i l. alike-like (rec t i) (rec f i) (each i l);
        own = λ i l. alike-own (rec t i) (rec f i) (each i l) (c.own i l);
        apart = λ i j l m k e.
            let s = same-entry i l k in
            c.apart i j l m (rw s at k) (sym (same-bears (holder (rec t i)) (name_of boxed (rec t i)) j m) ∙ (rw s at e));
      })

-- a table that has its clauses is sound once its counts are corrected
pub recounts-right : (t : List ℕ) → Sound t → Right (run t (recounts t))
recounts-right t c =
    record { clauses = alike-clauses 65535 t (run t (recounts t)) c (length_run t (recounts t)) (recounts-each t); counts = recounts-true t }

-- the same stores leave them alike
pub run-alike : (u v : List ℕ) (ss : List Store) → length v ≡ length u → EachAlike u v
    → Every (λ s. (s.at < rooms u) × (length s.bytes ≡ 32)) ss → EachAlike (run u ss) (run v ss)
unfolding run
run-alike u v [] e h w = h
run-alike u v (s ∷ ss) e h w =
    run-alike (lay u s.at s.bytes) (lay v s.at s.bytes) ss (rw (length-lay u s.at s.bytes, length-lay v s.at s.bytes) e) one
    (rw (rooms-lay u s.at s.bytes) w.1)
  where
    one : EachAlike (lay u s.at s.bytes) (lay v s.at s.bytes)
    one i l =
        let lu : i < rooms u = rw (rooms-lay u s.at s.bytes) at l in
        let lv : i < rooms v = rw e lu in
        by_cases (ℕ_discrete i s.at)
        (λ (q : i ≡ s.at).
        equal (rw (q, lay-same u s.at s.bytes w.0.1 w.0.0, lay-same v s.at s.bytes w.0.1 (rw e w.0.0))))
        (λ (q : i ≢ s.at). rw (lay-other u s.at s.bytes i w.0.1 q lu, lay-other v s.at s.bytes i w.0.1 q lv) (h i lu))
