-- What a walk does, on any table: each link looks its name up among the entries that stand where the walk is, and enters a directory.
-- It stops with 11, 12 or 13 alone, at a link of its chain; so what holds of a halted plan, and of the plan where the walks end, holds of the whole.
use mathlib.Core.Bool.{Bool, true, false, not, cond}
use mathlib.Core.List.{List, [], ◌∷◌}
use mathlib.Core.Logic.{◌⊎◌, inl, inr}
use mathlib.Core.Path.{◌≡◌, refl, sym, ap, ◌∙◌, subst}
use Prim.Native.Nat.{ℕ, suc, ◌+◌, ◌≤◌, ◌<◌}
use native.Mathlib.Omega.{arith}
use lib.ListN.{length}
use lib.Dec.{eqb}
use borrow.Author.Tests.{ne_eqb}
use Rattle.paper.specs.Scan.{Found, at, nowhere}
use Rattle.paper.specs.Record.{directory}
use Rattle.paper.specs.Layout.{name_of, boxed}
use Rattle.paper.specs.Table.{rooms, rec}
use Rattle.paper.specs.Line.{Word}
use Rattle.paper.specs.Check.{at_link, refusal_at}
use Rattle.paper.specs.Code.{no_read}
use Rattle.paper.specs.Entry.{in_directory, find}
use Rattle.paper.specs.Walk.{State, start, applies, file, Step, on, off, looked, look, enter, then, follow, Walked, reached, stopped, linked, to_directory, last_name, to_last, last_from, end_from, ended}
use Rattle.paper.specs.Effect.{Planned, halted, onward, inward, chain_of, to_holder, to_end}
use Rattle.laws.proofs.Tests.{either, clash}
use Rattle.laws.proofs.Entries.{Stands, bears-stands, bears-name, found-bears}

-- ---- one link

-- what is found under the name n in s
pub record Looked (t : List ℕ) (s : State) (n : List ℕ) (f : State) : Type 0 where
  pub within : f.entry < rooms t
  pub stands : Stands s.holder (rec t f.entry)
  pub name : n ≡ name_of boxed (rec t f.entry)
  pub first : find boxed t s.holder n ≡ at f.entry
  pub holder : f.holder ≡ s.holder
  pub code : f.code ≡ applies t f.entry

pub look-on : (t : List ℕ) (s : State) (n : List ℕ) (f : State) → look boxed t s n ≡ on f → Looked t s n f
unfolding look
look-on t s n f e = go (find boxed t s.holder n) refl e
  where
    go : (x : Found) → find boxed t s.holder n ≡ x → looked t s x ≡ on f → Looked t s n f
    go (at i) p q =
        let c : record { holder = s.holder; entry = i; code = applies t i } ≡ f = cc in
        let g = found-bears t s.holder n i p in
        subst (Looked t s n) c
        (record {
          within = g.0;
          stands = bears-stands _ _ _ g.1;
          name = bears-name s.holder _ _ g.1;
          first = p;
          holder = refl;
          code = refl;
        })
    go nowhere p q = clash (cc)

-- a directory of the table, entered by an entry that names it
pub record Inside (t : List ℕ) (s : State) (d : State) : Type 0 where
  pub heading : d.holder ≡ in_directory (file t s)
  pub directory : directory (rec t (file t s)) ≡ true
  pub entry : d.entry ≡ s.entry
  pub code : d.code ≡ s.code

pub enter-on : (t : List ℕ) (s d : State) → enter t s ≡ on d → Inside t s d
unfolding enter
enter-on t s d e = go (directory (rec t (file t s))) refl (no_read s.code) e
  where
    went : State
    went = record { holder = in_directory (file t s); entry = s.entry; code = s.code }

    go : (a : Bool) → directory (rec t (file t s)) ≡ a → (b : Bool) → cond (not a) (off 12) (cond b (off 13) (on went)) ≡ on d → Inside t s d
    go false p b q = clash (cc)
    go true p true q = clash (cc)
    go true p false q =
        let c : went ≡ d = cc in
        subst (Inside t s) c (record { heading = refl; directory = p; entry = refl; code = refl })

-- the last link
pub last-looked : (t : List ℕ) (d : State) (ns : List (List ℕ)) (s : State) → to_last boxed t d ns ≡ reached s → Looked t d (last_name ns) s
last-looked t d ns s e = go (look boxed t d (last_name ns)) refl e
  where
    go : (x : Step) → look boxed t d (last_name ns) ≡ x → linked (length ns) x reached ≡ reached s → Looked t d (last_name ns) s
    go (off number) p q = clash (cc)
    go (on y) p q = let g : y ≡ s = cc in look-on t d (last_name ns) s (p ∙ ap on g)

-- ---- where a walk stops

-- "at each link 11, 12, 13"
abbrev pub Walks : ℕ → Type 0
Walks n = ((n ≡ 11) ⊎ (n ≡ 12)) ⊎ (n ≡ 13)

abbrev Steps : Step → Type 0
Steps (on s) = Unit {0}
Steps (off n) = Walks n

steps-look : (t : List ℕ) (s : State) (n : List ℕ) → Steps (look boxed t s n)
unfolding look
steps-look t s n = go (find boxed t s.holder n)
  where
    go : (x : Found) → Steps (looked t s x)
    go (at e) = tt
    go nowhere = inl (inl refl)

steps-enter : (t : List ℕ) (s : State) → Steps (enter t s)
unfolding enter
steps-enter t s =
    either Steps (not (directory (rec t (file t s)))) _ _ (inl (inr refl)) (either Steps (no_read s.code) _ _ (inr refl) tt)

steps-follow : (t : List ℕ) (s : State) (n : List ℕ) → Steps (follow boxed t s n)
unfolding follow
steps-follow t s n = go (look boxed t s n) (steps-look t s n)
  where
    go : (x : Step) → Steps x → Steps (then x (enter t))
    go (on s) h = steps-enter t s
    go (off n) h = h

-- what holds where a walk stops
abbrev Stops : (ℕ → ℕ → Type 0) → Walked → Type 0
Stops H (reached s) = Unit {0}
Stops H (stopped n link) = H n link

stops-linked : (H : ℕ → ℕ → Type 0) (k : ℕ) (x : Step) (f : State → Walked) → Steps x → ((n : ℕ) → Walks n → H n k)
    → ((s : State) → Stops H (f s)) → Stops H (linked k x f)
stops-linked H k (on s) f h a g = g s
stops-linked H k (off n) f h a g = a n h

-- at a link from k on, of these names
record From (k : ℕ) (ns : List (List ℕ)) (n link : ℕ) : Type 0 where
  number : Walks n
  least : k ≤ link
  most : link < k + length ns

stops-directory : (t : List ℕ) (k : ℕ) (s : State) (ns : List (List ℕ)) → Stops (From k ns) (to_directory boxed t k s ns)
unfolding to_directory
stops-directory t k s [] = tt
stops-directory t k s (n ∷ []) = tt
stops-directory t k s (n ∷ m ∷ ns) =
    stops-linked (From k (n ∷ m ∷ ns)) k (follow boxed t s n) _ (steps-follow t s n)
    (λ _ h. record { number = h; least = omega arith; most = omega arith })
    (λ d. later (to_directory boxed t (suc k) d (m ∷ ns)) (stops-directory t (suc k) d (m ∷ ns)))
  where
    later : (x : Walked) → Stops (From (suc k) (m ∷ ns)) x → Stops (From k (n ∷ m ∷ ns)) x
    later (reached d) h = tt
    later (stopped a link) h = record { number = h.number; least = omega (arith, h.least); most = omega (arith, h.most) }

-- a walk stops at a link of its chain, which is 0 only where there is none
pub record Halts (ns : List (List ℕ)) (n link : ℕ) : Type 0 where
  pub number : Walks n
  pub most : link ≤ length ns
  pub none : eqb link 0 ≡ eqb (length ns) 0

halts-from : (ns : List (List ℕ)) (n link : ℕ) → From 1 ns n link → Halts ns n link
halts-from ns n link h =
    let l = h.least in
    let m = h.most in
    record {
      number = h.number;
      most = omega arith;
      none = ne_eqb link 0 (λ (z : link ≡ 0). omega arith) ∙ sym (ne_eqb (length ns) 0 (λ (z : length ns ≡ 0). omega arith));
    }

stops-last : (t : List ℕ) (d : State) (ns : List (List ℕ)) → Stops (Halts ns) (to_last boxed t d ns)
stops-last t d ns =
    stops-linked (Halts ns) (length ns) (look boxed t d (last_name ns)) reached (steps-look t d (last_name ns))
    (λ _ h. record { number = h; most = omega arith; none = refl }) (λ s. tt)

-- ---- what follows a walk

module _ (X : Planned → Type 0) (argument : ℕ) (w : Word) (stop : (n link : ℕ) → Halts (chain_of w) n link → X (halted (refusal_at n (at_link argument link))))
    (t : List ℕ) (u : ℕ) where
  -- to an argument's directory
  pub holder-within : (f : State → Planned) → ((d : State) → to_directory boxed t 1 (start u) (chain_of w) ≡ reached d → X (f d))
      → X (to_holder boxed t u argument w f)
  holder-within f g = go (to_directory boxed t 1 (start u) (chain_of w)) refl (stops-directory t 1 (start u) (chain_of w))
    where
      go : (x : Walked) → to_directory boxed t 1 (start u) (chain_of w) ≡ x → Stops (From 1 (chain_of w)) x → X (onward argument x f)
      go (reached d) e h = g d e
      go (stopped n link) e h = stop n link (halts-from (chain_of w) n link h)

  -- .. and to the file that it names
  pub end-within : (f : State → State → Planned)
      → ((d s : State) → to_directory boxed t 1 (start u) (chain_of w) ≡ reached d → to_last boxed t d (chain_of w) ≡ reached s → X (f d s))
      → X (to_end boxed t u argument w f)
  unfolding ended
  end-within f g = go (to_directory boxed t 1 (start u) (chain_of w)) refl (stops-directory t 1 (start u) (chain_of w))
    where
      last : (d : State) (x : Walked) → Stops (Halts (chain_of w)) x → ((s : State) → x ≡ reached s → X (f d s)) → X (inward argument (last_from d x) f)
      last d (reached s) h k = k s refl
      last d (stopped n link) h k = stop n link h

      go : (x : Walked) → to_directory boxed t 1 (start u) (chain_of w) ≡ x → Stops (From 1 (chain_of w)) x → X (inward argument (end_from boxed t (chain_of w) x) f)
      go (reached d) e h = last d (to_last boxed t d (chain_of w)) (stops-last t d (chain_of w)) (λ s. g d s e)
      go (stopped n link) e h = stop n link (halts-from (chain_of w) n link h)

-- .. where the link does not matter
module _ (X : Planned → Type 0) (argument : ℕ) (stop : (n link : ℕ) → Walks n → X (halted (refusal_at n (at_link argument link)))) (t : List ℕ) (u : ℕ)
    (w : Word) where
  pub holder-by : (f : State → Planned) → ((d : State) → to_directory boxed t 1 (start u) (chain_of w) ≡ reached d → X (f d))
      → X (to_holder boxed t u argument w f)
  holder-by = holder-within X argument w (λ n link h. stop n link h.number) t u

  pub end_by : (f : State → State → Planned)
      → ((d s : State) → to_directory boxed t 1 (start u) (chain_of w) ≡ reached d → to_last boxed t d (chain_of w) ≡ reached s → X (f d s))
      → X (to_end boxed t u argument w f)
  end_by = end-within X argument w (λ n link h. stop n link h.number) t u

-- ---- walks on two tables

-- where each link is followed alike, and the last looked up alike, walks end alike
module _ (t f : List ℕ) (looks : (s : State) (n : List ℕ) → look boxed f s n ≡ look boxed t s n)
    (follows : (s : State) (n : List ℕ) → follow boxed f s n ≡ follow boxed t s n) where
  pub directory-same : (k : ℕ) (s : State) (ns : List (List ℕ)) → to_directory boxed f k s ns ≡ to_directory boxed t k s ns
  unfolding to_directory
  directory-same k s [] = refl
  directory-same k s (n ∷ []) = refl
  directory-same k s (n ∷ m ∷ ns) = rw (follows s n) (go (follow boxed t s n) (λ x. directory-same (suc k) x (m ∷ ns)))
    where
      go : (x : Step) → ((y : State) → to_directory boxed f (suc k) y (m ∷ ns) ≡ to_directory boxed t (suc k) y (m ∷ ns))
          → linked k x (λ y. to_directory boxed f (suc k) y (m ∷ ns)) ≡ linked k x (λ y. to_directory boxed t (suc k) y (m ∷ ns))
      go (on y) r = r y
      go (off number) r = refl

  pub last-same : (s : State) (ns : List (List ℕ)) → to_last boxed f s ns ≡ to_last boxed t s ns
  last-same s ns = rw (looks s (last_name ns))

  pub end_same : (s : State) (ns : List (List ℕ)) → ended boxed f s ns ≡ ended boxed t s ns
  unfolding ended
  end_same s ns = rw (directory-same 1 s ns) (go (to_directory boxed t 1 s ns))
    where
      go : (x : Walked) → end_from boxed f ns x ≡ end_from boxed t ns x
      go (reached y) = rw (last-same y ns)
      go (stopped number link) = refl
