-- What the loops over a word's names and the tests of one name need: the names go one by one as `names-step` says, and
-- a chain is those names with `.W` before them where the first lacks its point.
use mathlib.Core.Bool.{Bool, true, false, ◌&&◌, ◌||◌, cond, not, or-false, and-true}
use mathlib.Core.List.{List, [], ◌∷◌}
use mathlib.Core.Logic.{◌⊎◌, inl, inr}
use mathlib.Core.Path.{◌≡◌, refl, sym, ap}
use Prim.Native.Nat.{ℕ, zero, suc, ◌+◌, ◌-◌, ◌≤◌, ◌<◌}
use native.Mathlib.Numerals.{add-one}
use native.Mathlib.Omega.{arith}
use lib.ListN.{length, get_or, drop}
use lib.Dec.{eqb, leb}
use borrow.Author.Tests.{ne_eqb}
use Rattle.std.specs.Prelude.{Some, None, is_some, unwrap_or}
use Rattle.std.specs.List.{list_all}
use Rattle.paper.specs.Line.{is_blank, in_line, legal_line, word}
use Rattle.paper.specs.Name.{same, in_name, in_base, in_number, user_name, link_name, link_names, pointed, well_formed, dot_r, dot_w, dot_g, dot_t, chain, alone, legal_base}
use Rattle.paper.specs.Request.{first_wrong, first_link}
use Rattle.words.specs.Place.{is_plain, name_end, gap_end, joined, next_name, next_word, cut, lone_of, names_from, name_place}
use Rattle.words.specs.Shown.{next_at, some_link}
use Rattle.laws.proofs.Tests.{truth, clash}
use Rattle.records.proofs.Order.{same_length}
use Rattle.words.proofs.Tests.{downward}
use Rattle.words.proofs.Reaches.{reach-le, all_list}
use Rattle.words.proofs.Pieces.{names-step, words-over, colon-inside}
use Rattle.words.proofs.Words.{next-later, next-joined, next-here, word-names, word-zero, word_next, word-there, word_none, next-word-later}

-- what the answer of `next_name` says
pub next-there : (line : List ℕ) (p q : ℕ) → next_at line p ≡ Some q → (joined line p ≡ true) × (q ≡ next_name line p)
next-there line p q e = go (joined line p) e
  where
    go : (b : Bool) → cond b (Some (next_name line p)) None ≡ Some q → (b ≡ true) × (q ≡ next_name line p)
    go true f = (refl, cc)
    go false f = let z : ◌≡◌ {A = ℕ} 0 1 = cc in clash z

pub next-none : (line : List ℕ) (p : ℕ) → next_at line p ≡ None → joined line p ≡ false
next-none line p e = go (joined line p) e
  where
    go : (b : Bool) → cond b (Some (next_name line p)) None ≡ None → b ≡ false
    go true f = let z : ◌≡◌ {A = ℕ} 0 1 = cc in clash z
    go false f = refl

pub next-some : (line : List ℕ) (p : ℕ) → is_some (next_at line p) ≡ joined line p
next-some line p = go (joined line p)
  where
    go : (b : Bool) → is_some (cond b (Some (next_name line p)) None) ≡ b
    go true = refl
    go false = refl

pub next-value : (line : List ℕ) (p : ℕ) → joined line p ≡ true → next_at line p ≡ Some (next_name line p)
next-value line p j = rw j

pub joined-inside : (line : List ℕ) (p : ℕ) → joined line p ≡ true → p < length line
joined-inside line p j = omega (arith, colon-inside line (gap_end line p) j, reach-le is_plain line p, reach-le is_blank line (name_end line p))

-- a word of one name, and a word of more
pub names-one : (line : List ℕ) (p : ℕ) → joined line p ≡ false → names_from line p ≡ cut line p ∷ []
names-one line p j = rw (names-step line p, j)

pub names_more : (line : List ℕ) (p : ℕ) → joined line p ≡ true → names_from line p ≡ cut line p ∷ names_from line (next_name line p)
names_more line p j = rw (names-step line p, j)

pub one-name : (line : List ℕ) (p : ℕ) → joined line p ≡ false → length (names_from line p) ≡ 1
one-name line p j = rw (names-one line p j)

pub more-names : (line : List ℕ) (p : ℕ) → joined line p ≡ true → length (names_from line p) ≡ suc (length (names_from line (next_name line p)))
more-names line p j = rw (names_more line p j)

pub names-first : (line : List ℕ) (p : ℕ) → get_or (names_from line p) 0 [] ≡ cut line p
names-first line p = rw (names-step line p)

pub ruleset names_start = (names-first)

pub ruleset next_steps = (next-some, next-value, next-joined, next-here, next-later, joined-inside)

pub ruleset name_counts = (next-some, next-value, next-later, joined-inside, one-name, more-names)

pub word-more : (line : List ℕ) (k : ℕ) → (word line (k + 1)).start ≡ next_word line (word line k).start
word-more line k = rw add-one (word_next line k)

pub ruleset word_steps = (word-zero, word-more)

pub ruleset word_counts = (word-zero, word-more, word-there, word_none, next-word-later)

-- a word of several names is no single name, for any test of those
pub names-two : (line : List ℕ) (p : ℕ) {A : Type 0} (f : List (List ℕ) → A) (a : A) → ((n m : List ℕ) (ns : List (List ℕ)) → f (n ∷ m ∷ ns) ≡ a)
    → joined line p ≡ true → f (names_from line p) ≡ a
names-two line p f a h j = rw (names_more line p j, names-step line (next_name line p)) (h _ _ _)

pub lone-one : (line : List ℕ) (p : ℕ) → joined line p ≡ false → lone_of (names_from line p) ≡ cut line p
lone-one line p j = rw (names-one line p j)

pub lone-more : (line : List ℕ) (p : ℕ) → joined line p ≡ true → lone_of (names_from line p) ≡ []
lone-more line p j = names-two line p lone_of [] (λ n m ns. refl) j

pub ruleset lone_names = (next-some, lone-one, lone-more)

-- a word is this one name where its stretch is
pub alone-lone : (a : ℕ) (s : List ℕ) (ns : List (List ℕ)) → alone (a ∷ s) ns ≡ same (lone_of ns) (a ∷ s)
unfolding same
alone-lone a s [] = refl
alone-lone a s (n ∷ []) = refl
alone-lone a s (n ∷ m ∷ ns) = refl

-- the first name that is no link name, name by name
pub wrong-here : (line : List ℕ) (p k : ℕ) → link_name (cut line p) ≡ false → first_wrong k (names_from line p) ≡ k
unfolding first_wrong
wrong-here line p k e = rw (names-step line p, e)

pub wrong-none : (line : List ℕ) (p k : ℕ) → link_name (cut line p) ≡ true → joined line p ≡ false → first_wrong k (names_from line p) ≡ 0
unfolding first_wrong
wrong-none line p k e j = rw (names-one line p j, e)

pub wrong-later : (line : List ℕ) (p k : ℕ) → link_name (cut line p) ≡ true → joined line p ≡ true
    → first_wrong k (names_from line p) ≡ first_wrong (suc k) (names_from line (next_name line p))
unfolding first_wrong
wrong-later line p k e j = rw (names_more line p j, e)

-- the number of a link, and 0 for none
pub some_link-there : (k : ℕ) → 1 ≤ k → some_link k ≡ Some k
some_link-there zero l = let z : ⊥ = omega arith in absurd z
some_link-there (suc k) l = refl

pub some_link-back : (k : ℕ) → unwrap_or (some_link k) 0 ≡ k
some_link-back zero = refl
some_link-back (suc k) = refl

pub some_link-some : (k : ℕ) → is_some (some_link k) ≡ not (eqb k 0)
some_link-some zero = refl
some_link-some (suc k) = rw (ne_eqb (suc k) 0 (λ (e : suc k ≡ 0). let z : ⊥ = omega arith in z))

not-not : (b : Bool) → not (not b) ≡ b
not-not true = refl
not-not false = refl

-- every name is a link name where none is the first wrong one
pub none-wrong : (ns : List (List ℕ)) (k : ℕ) → 1 ≤ k → link_names ns ≡ eqb (first_wrong k ns) 0
unfolding first_wrong link_names
none-wrong [] k l = refl
none-wrong (n ∷ ns) k l = go (link_name n) (none-wrong ns (suc k) (omega arith))
  where
    go : (t : Bool) → link_names ns ≡ eqb (first_wrong (suc k) ns) 0 → (t && link_names ns) ≡ eqb (cond t (first_wrong (suc k) ns) k) 0
    go true r = r
    go false r = sym (ne_eqb k 0 (λ (e : k ≡ 0). let z : ⊥ = omega arith in z))

-- the first written name is the first or the second
pub link-range : (ns : List (List ℕ)) → (1 ≤ first_link ns) × (first_link ns ≤ 2)
link-range ns = go (pointed (get_or ns 0 []))
  where
    go : (b : Bool) → (1 ≤ cond b 1 2) × (cond b 1 2 ≤ 2)
    go true = (omega arith, omega arith)
    go false = (omega arith, omega arith)

-- a chain is well formed by its three tests
pub well_tests : (ns : List (List ℕ)) → well_formed ns
    ≡ (not (is_some (some_link (first_wrong (first_link ns) ns))) && leb (length (chain ns)) 16 && not (same (lone_of ns) (45 ∷ [])))
unfolding well_formed
well_tests ns = rw (none-wrong ns (first_link ns) (link-range ns).0, some_link-some, not-not, alone-lone 45 [] ns)

pub link-least : (ns : List (List ℕ)) → 1 ≤ first_link ns
link-least ns = (link-range ns).0

pub link-most : (ns : List (List ℕ)) → first_link ns ≤ 2
link-most ns = (link-range ns).1

pub wrong-next : (line : List ℕ) (p k : ℕ) → link_name (cut line p) ≡ true → joined line p ≡ true
    → first_wrong k (names_from line p) ≡ first_wrong (k + 1) (names_from line (next_name line p))
wrong-next line p k e j = rw (add-one k) (wrong-later line p k e j)

pub ruleset wrong_steps =
    (next-some, next-value, next-later, joined-inside, link-least, link-most, wrong-here, wrong-none, wrong-next, some_link-there)

-- a word has one name, and one more for each joining colon at most
pub names-few : (line : List ℕ) (p : ℕ) → length (names_from line p) ≤ suc (length line - p)
names-few line = downward (λ p. length (names_from line p) ≤ suc (length line - p)) (length line) over one
  where
    one : (p : ℕ) → p < length line → ((q : ℕ) → p < q → length (names_from line q) ≤ suc (length line - q))
        → length (names_from line p) ≤ suc (length line - p)
    one p l r = go (truth (joined line p))
      where
        go : (joined line p ≡ true) ⊎ (joined line p ≡ false) → length (names_from line p) ≤ suc (length line - p)
        go (inl e) = omega (arith, ap length (names_more line p e), next-later line p, r (next_name line p) (next-later line p))
        go (inr e) = omega (arith, ap length (names-one line p e))

    over : (p : ℕ) → length line ≤ p → length (names_from line p) ≤ suc (length line - p)
    over p l = omega (arith, ap length (words-over line p l).2)

-- a chain is the names themselves, or `.W` and the names
pub chain-pointed : (line : List ℕ) (p : ℕ) → pointed (cut line p) ≡ true → chain (names_from line p) ≡ names_from line p
unfolding chain
chain-pointed line p e = rw (names-step line p, e)

pub chain-bare : (line : List ℕ) (p : ℕ) → pointed (cut line p) ≡ false → chain (names_from line p) ≡ dot_w ∷ names_from line p
unfolding chain
chain-bare line p e = rw (names-step line p, e)

pub chain_length : (line : List ℕ) (p : ℕ) → length (names_from line p) + first_link (names_from line p) - 1 ≡ length (chain (names_from line p))
chain_length line p = rw (names-first line p) (go (truth (pointed (cut line p))))
  where
    go : (pointed (cut line p) ≡ true) ⊎ (pointed (cut line p) ≡ false)
        → length (names_from line p) + cond (pointed (cut line p)) 1 2 - 1 ≡ length (chain (names_from line p))
    go (inl e) = rw (chain-pointed line p e, e) (omega arith)
    go (inr e) = rw (chain-bare line p e, e) (omega arith)

pub chain-base : (line : List ℕ) (p : ℕ) → get_or (chain (names_from line p)) 0 [] ≡ cond (pointed (cut line p)) (cut line p) dot_w
chain-base line p = go (truth (pointed (cut line p)))
  where
    go : (pointed (cut line p) ≡ true) ⊎ (pointed (cut line p) ≡ false)
        → get_or (chain (names_from line p)) 0 [] ≡ cond (pointed (cut line p)) (cut line p) dot_w
    go (inl e) = rw (chain-pointed line p e, e) (names-first line p)
    go (inr e) = rw (chain-bare line p e, e)

pub ruleset link_counts = (link-least, link-most, names-few, chain_length)

-- a name of two characters, by its characters
same-two : (s : List ℕ) (a b : ℕ) → length s ≡ 2 → same s (a ∷ b ∷ []) ≡ (eqb (get_or s 0 0) a && eqb (get_or s 1 0) b)
unfolding same
same-two [] a b e = let z : ⊥ = omega arith in absurd z
same-two (x ∷ []) a b e = let z : ⊥ = omega arith in absurd z
same-two (x ∷ y ∷ []) a b e = rw (and-true (eqb y b))
same-two (x ∷ y ∷ z ∷ s) a b e = let z : ⊥ = omega arith in absurd z

-- a line, a link name, a user's name and a base name, by their tests
pub line_tests : (line : List ℕ) → legal_line line ≡ (leb (length line) 256 && list_all in_line line)
unfolding legal_line
line_tests line = rw (all_list in_line line)

pub link_tests : (n : List ℕ) → link_name n ≡ (leb 1 (length n) && leb (length n) 10 && list_all in_name n)
unfolding link_name
link_tests n = rw (all_list in_name n)

pub user_tests : (n : List ℕ) → user_name n ≡ (pointed n && eqb (length n) 7 && list_all in_number (drop 1 n))
unfolding user_name
user_tests n = rw (all_list in_number (drop 1 n))

pub pointed_byte : (n : List ℕ) → pointed n ≡ eqb (get_or n 0 0) 46
unfolding pointed
pointed_byte n = refl

pub base-two : (n : List ℕ) → length n ≡ 2
    → legal_base n ≡ (pointed n && (eqb (get_or n 1 0) 82 || eqb (get_or n 1 0) 87 || eqb (get_or n 1 0) 71 || eqb (get_or n 1 0) 84))
unfolding legal_base pointed
base-two n l =
    rw (same-two n 46 82 l, same-two n 46 87 l, same-two n 46 71 l, same-two n 46 84 l, l)
    (go (eqb (get_or n 0 0) 46) (eqb (get_or n 1 0) 82) (eqb (get_or n 1 0) 87) (eqb (get_or n 1 0) 71) (eqb (get_or n 1 0) 84))
  where
    go : (p a b c d : Bool) → (p && a || p && b || p && c || p && d || p && false) ≡ (p && (a || b || c || d))
    go true a b c d = or-false _
    go false a b c d = refl

pub base-other : (n : List ℕ) → (length n ≡ 2 → ⊥) → legal_base n ≡ (pointed n && (leb 3 (length n) && list_all in_base n))
unfolding legal_base
base-other n h =
    rw (same_length n dot_r h, same_length n dot_w h, same_length n dot_g h, same_length n dot_t h, all_list in_base n)

pub supplied-legal : legal_base dot_w ≡ true
unfolding legal_base same
supplied-legal = refl

pub ruleset base_tests = (chain-base, supplied-legal)

pub ruleset legal_tests = (base-two, base-other, pointed_byte)

-- name j of word k is the stretch of the line where the reader finds it
pub name-there : (line : List ℕ) (j p : ℕ) → j < length (names_from line p) → get_or (names_from line p) j [] ≡ cut line (name_place line p j)
unfolding name_place
name-there line zero p l = names-first line p
name-there line (suc j) p l = go (truth (joined line p)) (name-there line j (next_name line p))
  where
    go : (joined line p ≡ true) ⊎ (joined line p ≡ false)
        → (j < length (names_from line (next_name line p)) → get_or (names_from line (next_name line p)) j [] ≡ cut line (name_place line (next_name line p) j))
        → get_or (names_from line p) (suc j) [] ≡ cut line (name_place line (next_name line p) j)
    go (inl e) r = rw (names_more line p e) (r (omega (arith, ap length (names_more line p e))))
    go (inr e) r = let z : ⊥ = omega (arith, ap length (names-one line p e)) in absurd z

pub word-name : (line : List ℕ) (k j : ℕ) → j < length (word line k).names → get_or (word line k).names j [] ≡ cut line (name_place line (word line k).start j)
word-name line k j l = rw (word-names line k) (name-there line j (word line k).start (rw (word-names line k) at l))
