-- What a walk reaches on a sound table: the entry that it follows names a heading, and it enters a directory alone.
-- So it ends in the base list that it started in, after one name, or else in a directory heading of the table.
use mathlib.Core.Bool.{true}
use mathlib.Core.List.{List, [], ◌∷◌}
use mathlib.Core.Logic.{◌⊎◌, inl, inr}
use mathlib.Core.Path.{◌≡◌, refl, sym, ap, ◌∙◌, subst}
use Prim.Native.Nat.{ℕ, suc, ◌≤◌, ◌<◌}
use native.Mathlib.Omega.{arith}
use lib.ListN.{length}
use lib.Bits.{or_lt}
use Rattle.paper.specs.Record.{byte, directory}
use Rattle.paper.specs.Layout.{boxed}
use Rattle.paper.specs.Table.{rooms, rec}
use Rattle.paper.specs.Code.{joined}
use Rattle.paper.specs.Entry.{Holder, in_directory}
use Rattle.paper.specs.Walk.{State, start, applies, file, Step, on, off, look, enter, then, follow, reached, linked, to_directory, last_name, to_last}
use Rattle.laws.proofs.Tests.{clash}
use Rattle.laws.proofs.Lay.{within}
use Rattle.demands.proofs.Sound.Clauses.{SoundBut, EntryOwn, HeadingFields, heading-fields, entry-code}
use Rattle.demands.proofs.Request.Steps.{Looked, look-on, last-looked, enter-on}

-- three bits joined with three bits
pub joined-code : (a b : ℕ) → a ≤ 7 → b ≤ 7 → joined a b ≤ 7
joined-code a b l m = omega (arith, or_lt 3 a b (omega arith) (omega arith))

-- a state in a directory of the table
pub record InDirectory (t : List ℕ) (d : State) : Type 0 where
  pub heading : ℕ
  pub within : heading < rooms t
  pub directory : directory (rec t heading) ≡ true
  pub holder : d.holder ≡ in_directory heading
  pub code : d.code ≤ 7

-- an entry of the table that stands in d and bears the name n, and the heading that it names
pub record Reached (t : List ℕ) (d : State) (n : List ℕ) (f : State) : Type 0 where
  pub looked : Looked t d n f
  pub own : EntryOwn (rec t f.entry)
  pub within : file t f < rooms t
  pub heading : byte (rec t (file t f)) 0 ≡ 1
  pub fields : HeadingFields (rec t (file t f))
  pub code : f.code ≤ 7

-- where a walk of user u to a directory ends: in the base list after one name, in a directory after more
pub data Ends (t : List ℕ) (u : ℕ) (ns : List (List ℕ)) (d : State) : Type 0 where
  base : length ns ≤ 1 → d ≡ start u → Ends t u ns d
  inside : 2 ≤ length ns → InDirectory t d → Ends t u ns d

module _ (o : ℕ) (t : List ℕ) (c : SoundBut o t) where
  pub looked-reached : (d : State) (n : List ℕ) (f : State) → Looked t d n f → Reached t d n f
  unfolding applies
  looked-reached d n f l =
      let k = l.stands.kind in
      let h = c.targets f.entry l.within k in
      let w = within t (file t f) c.whole (omega arith) in
      let v = heading-fields _ ((c.own (file t f) w).heading h) in
      let x = (c.own f.entry l.within).entry k in
      record {
        looked = l;
        own = x;
        within = w;
        heading = h;
        fields = v;
        code = rw l.code (joined-code _ _ v.code (entry-code _ x));
      }

  -- a link before the last leads into a directory
  pub follow-on : (s : State) (n : List ℕ) (d : State) → follow boxed t s n ≡ on d → InDirectory t d
  unfolding follow
  follow-on s n d e = go (look boxed t s n) refl e
    where
      go : (x : Step) → look boxed t s n ≡ x → then x (enter t) ≡ on d → InDirectory t d
      go (off number) p q = clash (cc)
      go (on f) p q =
          let r = looked-reached s n f (look-on t s n f p) in
          let i = enter-on t f d q in
          record { heading = file t f; within = r.within; directory = i.directory; holder = i.heading; code = rw i.code r.code }

  -- from any state: where it stands, after one name; in a directory, after more
  walk_from : (k : ℕ) (s : State) (ns : List (List ℕ)) (d : State) → to_directory boxed t k s ns ≡ reached d
      → ((length ns ≤ 1) × (d ≡ s)) ⊎ ((2 ≤ length ns) × InDirectory t d)
  unfolding to_directory
  walk_from k s [] d e = inl (omega arith, cc)
  walk_from k s (n ∷ []) d e = inl (omega arith, cc)
  walk_from k s (n ∷ m ∷ ns) d e = go (follow boxed t s n) refl e (λ x. walk_from (suc k) x (m ∷ ns) d)
    where
      joined : (x : State) → InDirectory t x → ((length (m ∷ ns) ≤ 1) × (d ≡ x)) ⊎ ((2 ≤ length (m ∷ ns)) × InDirectory t d) → InDirectory t d
      joined x i (inl r) = subst (InDirectory t) (sym r.1) i
      joined x i (inr r) = r.1

      go : (x : Step) → follow boxed t s n ≡ x → linked k x (λ y. to_directory boxed t (suc k) y (m ∷ ns)) ≡ reached d
          → ((y : State) → to_directory boxed t (suc k) y (m ∷ ns) ≡ reached d → ((length (m ∷ ns) ≤ 1) × (d ≡ y)) ⊎ ((2 ≤ length (m ∷ ns)) × InDirectory t d))
          → ((length (n ∷ m ∷ ns) ≤ 1) × (d ≡ s)) ⊎ ((2 ≤ length (n ∷ m ∷ ns)) × InDirectory t d)
      go (off number) p q r = clash (cc)
      go (on y) p q r = inr (omega arith, joined y (follow-on s n y p) (r y q))

  pub walk_ends : (k u : ℕ) (ns : List (List ℕ)) (d : State) → to_directory boxed t k (start u) ns ≡ reached d → Ends t u ns d
  walk_ends k u ns d e = go (walk_from k (start u) ns d e)
    where
      go : ((length ns ≤ 1) × (d ≡ start u)) ⊎ ((2 ≤ length ns) × InDirectory t d) → Ends t u ns d
      go (inl r) = base r.0 r.1
      go (inr r) = inside r.0 r.1

  -- the last name leads to an entry that bears it, and the heading that the entry names
  pub walk-reached : (d : State) (ns : List (List ℕ)) (f : State) → to_last boxed t d ns ≡ reached f → Reached t d (last_name ns) f
  walk-reached d ns f e = looked-reached d (last_name ns) f (last-looked t d ns f e)

  -- the base list exactly after one name
  pub ends-base : (u : ℕ) (ns : List (List ℕ)) (d : State) → Ends t u ns d → d.holder.heading ≡ 65535 → length ns ≤ 1
  ends-base u ns d (base m e) p = m
  ends-base u ns d (inside m e) p =
      let g : e.heading ≡ 65535 = sym (ap (λ (x : Holder). x.heading) e.holder) ∙ p in
      let z : ⊥ = omega (arith, c.few, e.within) in absurd z
