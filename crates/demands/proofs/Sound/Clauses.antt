-- Soundness as a record of clauses, and the two conversions from and to the computed test, clause by clause.
-- What a record owes by itself is `Own`; the other clauses look at two records or more. Heading o alone may be named by no entry.
use mathlib.Core.Bool.{true, false, ◌&&◌}
use mathlib.Core.List.{List, [], ◌∷◌}
use mathlib.Core.Logic.{◌⊎◌, inl, inr, ◌≢◌, by_cases}
use mathlib.Core.Path.{◌≡◌, subst}
use Prim.Native.Nat.{ℕ, ◌%◌, ◌≤◌, ◌<◌}
use native.Mathlib.Omega.{arith}
use native.Mathlib.Decide.{ℕ_discrete, dec_lt}
use lib.ListN.{length}
use lib.Dec.{eqb, leb}
use borrow.Author.Tests.{eqb-true, eq-eqb, leb-true, le-leb, not-true}
use Rattle.paper.specs.Scan.{all_below, any_below, count_below}
use Rattle.paper.specs.Record.{byte, heading_type, level, heading_code, lifetime, mark, text_length, entry_code, heading_named, text_at, zeros}
use Rattle.paper.specs.Layout.{name_of, boxed}
use Rattle.paper.specs.Table.{sized, rooms, rec}
use Rattle.paper.specs.Entry.{Holder, holder, stands, bears, crowd, limit, named}
use Rattle.paper.specs.Block.{blocks}
use Rattle.paper.specs.Sound.{implies, free_as_above, mark_right, heading_as_above, entry_as_above, text_as_above, as_above, holder_there, holders_there, heading_there, headings_there, user_right, users_right, name_padded, names_padded, not_twice, none_twice, is_named, all_named, not_crowded, none_crowded, directory_plain, directories_plain, once, text_whole, texts_whole, text_in_place, no_other_text, name_legal, names_legal, counts_true, shaped, sound}
use Rattle.laws.proofs.Tests.{truth, and_left, and_right, and_both, and_parts, implies-use, implies-by, false-by, not-both, joined, joined-first, joined-part}
use Rattle.laws.proofs.Scans.{all_true, all_here, any_here, any-true, any_false}
use Rattle.laws.proofs.Counts.{count_none}
use Rattle.laws.proofs.Sound.{sized-whole, Tested, tested, untested, above_view, above-made, every_true, every_here}
use Rattle.laws.proofs.Entries.{Stands, stands-true, stands-holder, bears-stands, bears-back}

-- what a heading, and what an entry, owes by itself
pub record HeadingOwn (r : List ℕ) : Type 0 where
  pub shape : heading_as_above 0 r ≡ true
  pub directory : heading_type r ≡ 0 → (lifetime r ≡ 1) × (text_length r ≡ 0)
  pub simple : heading_type r ≡ 1 → text_length r ≤ 24000

pub record EntryOwn (r : List ℕ) : Type 0 where
  pub shape : entry_as_above boxed 0 r ≡ true
  pub user : user_right 0 r ≡ true
  pub padded : name_padded boxed 0 r ≡ true
  pub legal : name_legal boxed 0 r ≡ true

-- what a record owes by itself, by its kind
pub record Own (r : List ℕ) : Type 0 where
  pub kinds : byte r 0 ≤ 3
  pub free : byte r 0 ≡ 0 → free_as_above 0 r ≡ true
  pub heading : byte r 0 ≡ 1 → HeadingOwn r
  pub entry : byte r 0 ≡ 2 → EntryOwn r
  pub text : byte r 0 ≡ 3 → text_as_above 0 r ≡ true

-- the table is sound, but for heading o, which may be named by no entry
pub record SoundBut (o : ℕ) (t : List ℕ) : Type 0 where
  pub whole : length t % 32 ≡ 0
  pub few : rooms t ≤ 2048
  pub own : (i : ℕ) → i < rooms t → Own (rec t i)
  -- "each entry's directory is a directory heading or 65,535"
  pub holders : (i : ℕ) → i < rooms t → byte (rec t i) 0 ≡ 2 → holder_there t i (rec t i) ≡ true
  -- "each entry names a heading"
  pub targets : (i : ℕ) → i < rooms t → byte (rec t i) 0 ≡ 2 → byte (rec t (heading_named (rec t i))) 0 ≡ 1
  -- "no directory, and no one user's base list, has a name twice"
  pub apart : (i j : ℕ) → i < rooms t → j < rooms t → byte (rec t i) 0 ≡ 2 → bears boxed (holder (rec t i)) (name_of boxed (rec t i)) (rec t j) ≡ true → i ≡ j
  -- "every heading is named by an entry"
  pub named : (i : ℕ) → i < rooms t → byte (rec t i) 0 ≡ 1 → (named t i ≡ true) ⊎ (i ≡ o)
  -- "a directory has at most 112 entries and a user at most 100 base files"
  pub crowds : (d : Holder) → crowd t d ≤ limit d
  -- "each text position .. exactly once"
  pub once : (h p : ℕ) → h < rooms t → byte (rec t h) 0 ≡ 1 → heading_type (rec t h) ≡ 1 → p < blocks (text_length (rec t h))
      → count_below (λ i. text_at h p (rec t i)) (rooms t) ≡ 1
  -- "there is no other text"
  pub texts : (i : ℕ) → i < rooms t → byte (rec t i) 0 ≡ 3 → text_in_place t i (rec t i) ≡ true

-- no heading is number 65,535, so none may be unnamed
abbrev pub Sound : List ℕ → Type 0
Sound t = SoundBut 65535 t

-- the numbers that a heading and an entry then have
pub record HeadingFields (r : List ℕ) : Type 0 where
  pub type : heading_type r ≤ 1
  pub level : level r ≤ 3
  pub code : heading_code r ≤ 7
  pub lifetime : (1 ≤ lifetime r) × (lifetime r ≤ 2)
  pub mark : mark_right r ≡ true
  pub rest : zeros 6 4 r ≡ true
  pub file : heading_type r ≡ 1 → zeros 14 2 r ≡ true
  pub last : zeros 16 16 r ≡ true

pub heading-fields : (r : List ℕ) → HeadingOwn r → HeadingFields r
unfolding joined
heading-fields r h =
    let a = leb (heading_type r) 1 in
    let f = implies (eqb (heading_type r) 1) (zeros 14 2 r) in
    let s = leb (level r) 3 ∷ leb (heading_code r) 7 ∷ leb 1 (lifetime r) ∷ leb (lifetime r) 2 ∷ mark_right r ∷ zeros 6 4 r ∷ f ∷ zeros 16 16 r ∷ [] in
    record {
      type = leb-true _ _ (joined-first a s h.shape);
      level = leb-true _ _ (joined-part a s 0 h.shape);
      code = leb-true _ _ (joined-part a s 1 h.shape);
      lifetime = (leb-true _ _ (joined-part a s 2 h.shape), leb-true _ _ (joined-part a s 3 h.shape));
      mark = joined-part a s 4 h.shape;
      rest = joined-part a s 5 h.shape;
      file = λ e. implies-use (eqb (heading_type r) 1) _ (joined-part a s 6 h.shape) (eq-eqb _ _ e);
      last = joined-part a s 7 h.shape;
    }

-- "A marked file, simple, M, length 0"
pub record Marked (r : List ℕ) : Type 0 where
  pub type : heading_type r ≡ 1
  pub lifetime : lifetime r ≡ 1
  pub length : text_length r ≡ 0

pub heading-marked : (r : List ℕ) → HeadingOwn r → mark r ≡ 1 → Marked r
heading-marked r h m =
    let a : (eqb (heading_type r) 1 && (eqb (lifetime r) 1 && eqb (text_length r) 0)) ≡ true = rw m at (heading-fields r h).mark in
    let b = and_right (eqb (heading_type r) 1) _ a in
    record {
      type = eqb-true _ _ (and_left (eqb (heading_type r) 1) _ a);
      lifetime = eqb-true _ _ (and_left (eqb (lifetime r) 1) _ b);
      length = eqb-true _ _ (and_right (eqb (lifetime r) 1) _ b);
    }

pub entry-code : (r : List ℕ) → EntryOwn r → entry_code r ≤ 7
entry-code r h = leb-true _ _ (and_left (leb (entry_code r) 7) _ h.shape)

-- a heading of a text is a simple file's, since a directory has none; and no text is longer than 24,000
pub simple-by : (r : List ℕ) → HeadingOwn r → (p : ℕ) → p < blocks (text_length r) → heading_type r ≡ 1
simple-by r h p b =
    by_cases (ℕ_discrete (heading_type r) 0)
    (λ (q : heading_type r ≡ 0). let n : text_length r ≡ 0 = (h.directory q).1 in let z : ⊥ = omega arith in absurd z)
    (λ (q : heading_type r ≢ 0). omega (arith, (heading-fields r h).type))

pub length_most : (r : List ℕ) → HeadingOwn r → text_length r ≤ 24000
length_most r h =
    by_cases (ℕ_discrete (heading_type r) 0)
    (λ (q : heading_type r ≡ 0). omega (arith, (h.directory q).1))
    (λ (q : heading_type r ≢ 0). h.simple (omega (arith, (heading-fields r h).type)))

-- ---- from the test to the clauses

own-by : (t : List ℕ) → Tested t → (i : ℕ) → i < rooms t → Own (rec t i)
unfolding users_right names_padded directories_plain texts_whole names_legal
own-by t c i l =
    let a = above_view t c.above in
    record {
      kinds = leb-true _ _ (all_true (λ i. leb (byte (rec t i) 0) 3) (rooms t) i l a.kinds);
      free = every_true 0 free_as_above t a.free i l;
      heading = λ q.
          record {
            shape = every_true 1 heading_as_above t a.heading i l q;
            directory = λ z.
                let w =
                and_parts _ (eqb (text_length (rec t i)) 0)
                (implies-use (eqb (heading_type (rec t i)) 0) _ (every_true 1 directory_plain t c.plain i l q) (eq-eqb _ _ z)) in
                (eqb-true _ _ w.0, eqb-true _ _ w.1);
            simple = λ z. leb-true _ _ (and_left _ (all_below (once t i) (blocks (text_length (rec t i))))
                (implies-use (eqb (heading_type (rec t i)) 1) _ (every_true 1 (text_whole t) t c.whole i l q) (eq-eqb _ _ z)));
          };
      entry = λ q.
          record {
            shape = every_true 2 (entry_as_above boxed) t a.entry i l q;
            user = every_true 2 user_right t c.users i l q;
            padded = every_true 2 (name_padded boxed) t c.padded i l q;
            legal = every_true 2 (name_legal boxed) t c.legal i l q;
          };
      text = every_true 3 text_as_above t a.text i l;
    }

-- two entries that bear one name in one place are one: the later of two would have one before it
apart_by : (t : List ℕ) → Tested t → (i j : ℕ) → i < rooms t → j < rooms t → byte (rec t i) 0 ≡ 2
    → bears boxed (holder (rec t i)) (name_of boxed (rec t i)) (rec t j) ≡ true → i ≡ j
unfolding none_twice
apart_by t c i j li lj q b =
    by_cases (ℕ_discrete i j) (λ (e : i ≡ j). e)
    (λ (e : i ≢ j).
    by_cases (dec_lt j i) (λ (l : j < i). absurd (later i j li q l b))
    (λ (l : ¬ (j < i)). absurd (later j i lj s.kind (omega arith) (bears-back (rec t i) (rec t j) q b))))
  where
    s : Stands (holder (rec t i)) (rec t j)
    s = bears-stands (holder (rec t i)) (name_of boxed (rec t i)) (rec t j) b

    later : (a z : ℕ) → a < rooms t → byte (rec t a) 0 ≡ 2 → z < a → bears boxed (holder (rec t a)) (name_of boxed (rec t a)) (rec t z) ≡ true → ⊥
    later a z la qa lz x =
        not-both (any_here (λ j. bears boxed (holder (rec t a)) (name_of boxed (rec t a)) (rec t j)) a z lz x)
        (not-true _ (every_true 2 (not_twice boxed t) t c.twice a la qa))

-- a holder in which nothing stands has no crowd, and another is some entry's own
crowds-by : (t : List ℕ) → Tested t → (d : Holder) → crowd t d ≤ limit d
unfolding none_crowded crowd
crowds-by t c d = go (truth (any_below (λ i. stands d (rec t i)) (rooms t)))
  where
    go : (any_below (λ i. stands d (rec t i)) (rooms t) ≡ true) ⊎ (any_below (λ i. stands d (rec t i)) (rooms t) ≡ false) → crowd t d ≤ limit d
    go (inr f) = rw (count_none (λ i. stands d (rec t i)) (rooms t) (λ i l. any_false (λ i. stands d (rec t i)) (rooms t) i l f)) (omega arith)
    go (inl f) =
        let w = any-true (λ i. stands d (rec t i)) (rooms t) f in
        let s = stands-true d (rec t w.0) w.2 in
        let b : crowd t (holder (rec t w.0)) ≤ limit (holder (rec t w.0)) =
        leb-true _ _ (every_true 2 (not_crowded t) t c.crowded w.0 w.1 s.kind) in
        subst (λ (x : Holder). crowd t x ≤ limit x) (stands-holder d (rec t w.0) s) b

pub shaped-clauses : (t : List ℕ) → sized t ≡ true → shaped boxed t ≡ true → Sound t
unfolding holders_there headings_there all_named texts_whole no_other_text
shaped-clauses t z e =
    let c = tested t e in
    let s = sized-whole t z in
    record {
      whole = s.0;
      few = omega (arith, s.1);
      own = own-by t c;
      holders = every_true 2 (holder_there t) t c.holders;
      targets = λ i l q. eqb-true _ _ (every_true 2 (heading_there t) t c.headings i l q);
      apart = apart_by t c;
      named = λ i l q. inl (every_true 1 (is_named t) t c.named i l q);
      crowds = crowds-by t c;
      once = λ h p l q s b.
          eqb-true _ _ (all_true (once t h) (blocks (text_length (rec t h))) p b
          (and_right (leb (text_length (rec t h)) 24000) _
          (implies-use (eqb (heading_type (rec t h)) 1) _ (every_true 1 (text_whole t) t c.whole h l q) (eq-eqb _ _ s))));
      texts = every_true 3 (text_in_place t) t c.other;
    }

pub sound-clauses : (t : List ℕ) → sized t ≡ true → sound boxed t ≡ true → Sound t
unfolding sound
sound-clauses t z e = shaped-clauses t z (and_left (shaped boxed t) _ e)

-- ---- from the clauses to the test

above-by : (t : List ℕ) → Sound t → as_above boxed t ≡ true
above-by t c =
    above-made t (record {
      kinds = all_here (λ i. leb (byte (rec t i) 0) 3) (rooms t) (λ i l. le-leb _ _ (c.own i l).kinds);
      free = every_here 0 free_as_above t (λ i l. (c.own i l).free);
      heading = every_here 1 heading_as_above t (λ i l q. ((c.own i l).heading q).shape);
      entry = every_here 2 (entry_as_above boxed) t (λ i l q. ((c.own i l).entry q).shape);
      text = every_here 3 text_as_above t (λ i l. (c.own i l).text);
    })

twice-by : (t : List ℕ) → Sound t → none_twice boxed t ≡ true
unfolding none_twice
twice-by t c =
    every_here 2 (not_twice boxed t) t (λ i l q. rw (false-by (any_below (λ j. bears boxed (holder (rec t i)) (name_of boxed (rec t i)) (rec t j)) i) (one i l q)))
  where
    one : (i : ℕ) → i < rooms t → byte (rec t i) 0 ≡ 2 → any_below (λ j. bears boxed (holder (rec t i)) (name_of boxed (rec t i)) (rec t j)) i ≡ true → ⊥
    one i l q e =
        let w = any-true (λ j. bears boxed (holder (rec t i)) (name_of boxed (rec t i)) (rec t j)) i e in
        let b : w.0 < i = w.1 in
        let s : i ≡ w.0 = c.apart i w.0 l (omega arith) q w.2 in
        omega arith

pub named_by : (t : List ℕ) → Sound t → (i : ℕ) → i < rooms t → byte (rec t i) 0 ≡ 1 → named t i ≡ true
named_by t c i l q = go (c.named i l q)
  where
    go : (named t i ≡ true) ⊎ (i ≡ 65535) → named t i ≡ true
    go (inl e) = e
    go (inr e) = let z : ⊥ = omega (arith, c.few) in absurd z

pub clauses-shaped : (t : List ℕ) → Sound t → (sized t ≡ true) × (shaped boxed t ≡ true)
unfolding holders_there headings_there users_right names_padded all_named none_crowded directories_plain texts_whole no_other_text names_legal
clauses-shaped t c =
    let m : length t % 32 ≡ 0 = c.whole in
    let n : length t ≤ 65536 = omega (arith, c.few) in (
      and_both (eqb (length t % 32) 0) _ (eq-eqb _ _ m) (le-leb _ _ n),
      untested t (record {
        above = above-by t c;
        holders = every_here 2 (holder_there t) t c.holders;
        headings = every_here 2 (heading_there t) t (λ i l q. eq-eqb _ _ (c.targets i l q));
        users = every_here 2 user_right t (λ i l q. ((c.own i l).entry q).user);
        padded = every_here 2 (name_padded boxed) t (λ i l q. ((c.own i l).entry q).padded);
        twice = twice-by t c;
        named = every_here 1 (is_named t) t (named_by t c);
        crowded = every_here 2 (not_crowded t) t (λ i l q. le-leb _ _ (c.crowds (holder (rec t i))));
        plain = every_here 1 directory_plain t (λ i l q. implies-by (eqb (heading_type (rec t i)) 0) _ (λ z.
            let w = ((c.own i l).heading q).directory (eqb-true _ _ z) in
            and_both _ _ (eq-eqb _ _ w.0) (eq-eqb _ _ w.1)));
        whole = every_here 1 (text_whole t) t (λ i l q. implies-by (eqb (heading_type (rec t i)) 1) _ (λ z.
            and_both (leb (text_length (rec t i)) 24000) _ (le-leb _ _ (((c.own i l).heading q).simple (eqb-true _ _ z)))
            (all_here (once t i) (blocks (text_length (rec t i))) (λ p b. eq-eqb _ _ (c.once i p l q (eqb-true _ _ z) b)))));
        other = every_here 3 (text_in_place t) t c.texts;
        legal = every_here 2 (name_legal boxed) t (λ i l q. ((c.own i l).entry q).legal);
      }),
    )

pub clauses-sound : (t : List ℕ) → Sound t → counts_true t ≡ true → (sized t ≡ true) × (sound boxed t ≡ true)
unfolding sound
clauses-sound t c e = let s = clauses-shaped t c in (s.0, and_both (shaped boxed t) _ s.1 e)
