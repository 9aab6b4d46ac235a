-- Records replaced by like ones: of the same kind, with the fields that other records go by.
-- Every test that looks at other records then says the same, so a table stays sound where each record still owes nothing.
use mathlib.Core.Bool.{Bool, true, ◌&&◌}
use mathlib.Core.List.{List, []}
use mathlib.Core.Logic.{◌⊎◌, ◌≢◌, by_cases}
use mathlib.Core.Path.{◌≡◌, refl, sym, ◌∙◌}
use Prim.Native.Nat.{ℕ, ◌≤◌, ◌<◌}
use native.Mathlib.Omega.{arith}
use native.Mathlib.Decide.{ℕ_discrete, dec_lt}
use lib.ListN.{length}
use borrow.Author.Tests.{ne_eqb}
use Rattle.paper.specs.Scan.{count_below}
use Rattle.paper.specs.Record.{byte, is_kind, heading_type, text_length, holder_of, heading_named, user_of, names, heading_of, text_at}
use Rattle.paper.specs.Layout.{name_of, boxed}
use Rattle.paper.specs.Table.{rooms, rec, lay}
use Rattle.paper.specs.Entry.{Holder, holder, stands, bears, crowd, limit, named}
use Rattle.paper.specs.Block.{blocks}
use Rattle.paper.specs.Sound.{holder_there, text_in_place}
use Rattle.laws.proofs.Scans.{any-cong}
use Rattle.laws.proofs.Counts.{count-cong}
use Rattle.laws.proofs.Entries.{bears-stands, bears-back, typed}
use Rattle.laws.proofs.Lay.{rec-past, lay-same, lay-other, length-lay}
use Rattle.demands.proofs.Sound.Clauses.{Own, SoundBut}
use Rattle.demands.proofs.Sound.Points.{text-points}

pub record LikeHeading (a b : List ℕ) : Type 0 where
  pub type : heading_type b ≡ heading_type a
  pub length : text_length b ≡ text_length a

pub record LikeEntry (a b : List ℕ) : Type 0 where
  pub holder : holder_of b ≡ holder_of a
  pub heading : heading_named b ≡ heading_named a
  pub user : user_of b ≡ user_of a

-- b is what a was to every other record
pub record Like (a b : List ℕ) : Type 0 where
  pub kind : byte b 0 ≡ byte a 0
  pub heading : byte a 0 ≡ 1 → LikeHeading a b
  pub entry : byte a 0 ≡ 2 → LikeEntry a b
  pub text : byte a 0 ≡ 3 → b ≡ a

pub like-same : (a : List ℕ) → Like a a
like-same a =
    record {
      kind = refl;
      heading = λ _. record { type = refl; length = refl };
      entry = λ _. record { holder = refl; heading = refl; user = refl };
      text = λ _. refl;
    }

-- a test of records of one kind goes by what is alike
of-kind : (n : ℕ) (a b : List ℕ) (x y : Bool) → byte b 0 ≡ byte a 0 → (byte a 0 ≡ n → y ≡ x) → (is_kind n b && y) ≡ (is_kind n a && x)
of-kind n a b x y k f =
    by_cases (ℕ_discrete (byte a 0) n)
    (λ (q : byte a 0 ≡ n). rw (k, f q))
    (λ (q : byte a 0 ≢ n). rw (k, ne_eqb (byte a 0) n q))

like-typed : (n : ℕ) (a b : List ℕ) → Like a b → typed n b ≡ typed n a
like-typed n a b s = of-kind 1 a b _ _ s.kind (λ q. rw (s.heading q).type)

pub like-names : (h : ℕ) (a b : List ℕ) → Like a b → names h b ≡ names h a
like-names h a b s = of-kind 2 a b _ _ s.kind (λ q. rw (s.entry q).heading)

pub like-stands : (d : Holder) (a b : List ℕ) → Like a b → stands d b ≡ stands d a
unfolding stands
like-stands d a b s = of-kind 2 a b _ _ s.kind (λ q. rw ((s.entry q).holder, (s.entry q).user))

like-text : (h p : ℕ) (a b : List ℕ) → Like a b → text_at h p b ≡ text_at h p a
like-text h p a b s = of-kind 3 a b _ _ s.kind (λ q. rw (s.text q))

-- f is t with each record replaced by a like one that owes nothing, and still no name stands twice in one place
pub record Alike (t f : List ℕ) : Type 0 where
  pub long : length f ≡ length t
  pub each : (i : ℕ) → i < rooms t → Like (rec t i) (rec f i)
  pub own : (i : ℕ) → i < rooms t → Own (rec f i)
  pub apart : (i j : ℕ) → i < rooms t → j < rooms t → byte (rec f i) 0 ≡ 2 → bears boxed (holder (rec f i)) (name_of boxed (rec f i)) (rec f j) ≡ true → i ≡ j

module _ (o : ℕ) (t f : List ℕ) (c : SoundBut o t) (d : Alike t f) where
  -- past the table too
  like : (i : ℕ) → Like (rec t i) (rec f i)
  like i =
      by_cases (dec_lt i (rooms t)) (λ l. d.each i l)
      (λ (l : ¬ (i < rooms t)). rw (rec-past t i c.whole (omega arith), rec-past f i (rw d.long c.whole) (rw d.long (omega arith))) (like-same []))

  was : (k i : ℕ) → byte (rec f i) 0 ≡ k → byte (rec t i) 0 ≡ k
  was k i e = sym (like i).kind ∙ e

  holders-f : (i : ℕ) → i < rooms t → byte (rec f i) 0 ≡ 2 → holder_there f i (rec f i) ≡ true
  holders-f i l k =
      let m = was 2 i k in
      rw (((like i).entry m).holder, like-typed 0 (rec t (holder_of (rec t i))) (rec f (holder_of (rec t i))) (like (holder_of (rec t i)))) (c.holders i l m)

  targets-f : (i : ℕ) → i < rooms t → byte (rec f i) 0 ≡ 2 → byte (rec f (heading_named (rec f i))) 0 ≡ 1
  targets-f i l k =
      let m = was 2 i k in
      rw (((like i).entry m).heading, (like (heading_named (rec t i))).kind) (c.targets i l m)

  named-f : (i : ℕ) → i < rooms t → byte (rec f i) 0 ≡ 1 → (named f i ≡ true) ⊎ (i ≡ o)
  unfolding named
  named-f i l k =
      rw (d.long, any-cong (λ j. names i (rec f j)) (λ j. names i (rec t j)) (rooms t) (λ j m. like-names i (rec t j) (rec f j) (like j)))
      (c.named i l (was 1 i k))

  crowds-f : (h : Holder) → crowd f h ≤ limit h
  unfolding crowd
  crowds-f h =
      rw (d.long, count-cong (λ i. stands h (rec f i)) (λ i. stands h (rec t i)) (rooms t) (λ i l. like-stands h (rec t i) (rec f i) (like i))) (c.crowds h)

  once-f : (h p : ℕ) → h < rooms t → byte (rec f h) 0 ≡ 1 → heading_type (rec f h) ≡ 1 → p < blocks (text_length (rec f h))
      → count_below (λ i. text_at h p (rec f i)) (rooms f) ≡ 1
  once-f h p l k y b =
      let m = was 1 h k in
      let s = (like h).heading m in
      rw (d.long, count-cong (λ i. text_at h p (rec f i)) (λ i. text_at h p (rec t i)) (rooms t) (λ i z. like-text h p (rec t i) (rec f i) (like i)))
      (c.once h p l m (rw s.type at y) (rw s.length at b))

  texts-f : (i : ℕ) → i < rooms t → byte (rec f i) 0 ≡ 3 → text_in_place f i (rec f i) ≡ true
  texts-f i l k =
      let m = was 3 i k in
      let z : text_in_place t i (rec t i) ≡ true = c.texts i l m in
      let h = text-points o t c i l m in
      let s = like (heading_of (rec t i)) in
      rw ((like i).text m, like-typed 1 (rec t (heading_of (rec t i))) (rec f (heading_of (rec t i))) s, (s.heading h).length) z

  pub alike-sound : SoundBut o f
  alike-sound =
      let r : rooms f ≡ rooms t = rw d.long in
      record {
        whole = rw d.long c.whole;
        few = rw d.long c.few;
        own = λ i l. d.own i (rw r at l);
        holders = λ i l. holders-f i (rw r at l);
        targets = λ i l. targets-f i (rw r at l);
        apart = λ i j l m. d.apart i j (rw r at l) (rw r at m);
        named = λ i l. named-f i (rw r at l);
        crowds = crowds-f;
        once = λ h p l. once-f h p (rw r at l);
        texts = λ i l. texts-f i (rw r at l);
      }

-- one record replaced by a like one; if it is an entry, no other entry bears its name there
module _ (o : ℕ) (t : List ℕ) (e : ℕ) (r : List ℕ) (c : SoundBut o t) (l : e < rooms t) (s : length r ≡ 32) (k : Like (rec t e) r) (w : Own r)
    (fresh : byte r 0 ≡ 2 → (j : ℕ) → j < rooms t → j ≢ e → bears boxed (holder r) (name_of boxed r) (rec t j) ≡ true → ⊥) where
  here : rec (lay t e r) e ≡ r
  here = lay-same t e r s l

  there : (i : ℕ) → i < rooms t → i ≢ e → rec (lay t e r) i ≡ rec t i
  there i m d = lay-other t e r i s d m

  apart-one : (i j : ℕ) → i < rooms t → j < rooms t → byte (rec (lay t e r) i) 0 ≡ 2
      → bears boxed (holder (rec (lay t e r) i)) (name_of boxed (rec (lay t e r) i)) (rec (lay t e r) j) ≡ true → i ≡ j
  apart-one i j m n y b =
      by_cases (ℕ_discrete i e)
      (λ (p : i ≡ e). by_cases (ℕ_discrete j e) (λ (q : j ≡ e). p ∙ sym q) (λ (q : j ≢ e).
      absurd (fresh (rw (p, here) at y) j n q (rw (p, here, there j n q) at b))))
      (λ (p : i ≢ e). by_cases (ℕ_discrete j e)
      (λ (q : j ≡ e). absurd (back p (rw (there i m p) at y) (rw (q, here, there i m p) at b)))
      (λ (q : j ≢ e). c.apart i j m n (rw (there i m p) at y) (rw (there i m p, there j n q) at b)))
    where
      back : i ≢ e → byte (rec t i) 0 ≡ 2 → bears boxed (holder (rec t i)) (name_of boxed (rec t i)) r ≡ true → ⊥
      back p y b = fresh (bears-stands (holder (rec t i)) (name_of boxed (rec t i)) r b).kind i m p (bears-back (rec t i) r y b)

  pub replaced-sound : SoundBut o (lay t e r)
  replaced-sound =
      alike-sound o t (lay t e r) c
      (record {
        long = length-lay t e r;
        each = λ i m. by_cases (ℕ_discrete i e) (λ (q : i ≡ e). rw (q, here) k) (λ (q : i ≢ e). rw (there i m q) (like-same (rec t i)));
        own = λ i m. by_cases (ℕ_discrete i e) (λ (q : i ≡ e). rw (q, here) w) (λ (q : i ≢ e). rw (there i m q) (c.own i m));
        apart = apart-one;
      })
