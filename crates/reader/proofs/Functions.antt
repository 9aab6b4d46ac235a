-- What single functions need beside the laws of verdicts: a word that is one name is known by its stretch, and the first one's
-- decides the function; the names of DEL and DST are the words after the first, at least one where the count passed.
use mathlib.Core.Bool.{Bool, true, false, ◌&&◌, not, cond}
use mathlib.Core.List.{List, [], ◌∷◌}
use mathlib.Core.Path.{◌≡◌, refl, sym, ap, ◌∙◌}
use Rattle.std.specs.Prelude.{Option, Some, None, Ok}
use Prim.Native.Nat.{ℕ, ◌-◌, ◌≤◌}
use native.Mathlib.Omega.{arith}
use lib.ListN.{length, get_or, drop, length-drop}
use lib.Seq.{drop-cons}
use lib.Dec.{eqb, leb}
use borrow.Author.Tests.{eq-eqb, ne_eqb, leb-true}
use Rattle.std.proofs.Math.Bool.{and-false, and-true}
use Rattle.paper.specs.Declaration.{given, not_given}
use Rattle.paper.specs.Name.{lone_point, same, link_name}
use Rattle.paper.specs.Line.{Word, words, word}
use Rattle.paper.specs.Check.{whole, refusal_at, Check, refused, verdict}
use Rattle.paper.specs.Request.{old_from, new_to, unread, del, dst, counted, miscounted, link_alone, is_function, read_crd, read_wrs, read_rds, read_lst, read_cpy, read_dup, read_chn, read_dpr, read_names, depth_of, depth_given, is_tree, read_tree, is_rewrite, read_rewrite, read_function}
use Rattle.records.specs.Part.{shown_part}
use Rattle.std.specs.Option.{is_some}
use Rattle.words.specs.Shown.{next_at}
use Rattle.words.specs.Shown.{begin_shown}
use Rattle.words.specs.declared.begin.Begin.{Begin}
use Rattle.words.specs.Place.{word_at, joined, next_name, lone_of, names_from}
use Rattle.laws.proofs.Tests.{clash}
use Rattle.words.proofs.Names.{alone-lone}
use Rattle.words.proofs.Words.{word-here, word-names}
use Rattle.reader.specs.Asked.{first_start, shown_request, removing, removed, shown_verdict, function_of, read_by}
use Rattle.reader.specs.declared.function.Function.{Function}
use Rattle.reader.specs.declared.function.Function.TheVariants as function

-- word 1, of which w is the stretch, is a lone point
pub lone-point : (line : List ℕ) (p : ℕ) (w : List ℕ) (b : Bool) → p ≡ (word line 1).start → w ≡ lone_of (names_from line p)
    → b ≡ same w (46 ∷ []) → lone_point (word line 1).names ≡ b
lone-point line p w b e f g = rw (word-names line 1, ← e, alone-lone 46 [] (names_from line p), ← f) (sym g)

-- where the old name starts, word 1, and the new one, word 2
pub from-word : (line : List ℕ) (p : ℕ) (b : Begin) → p ≡ (word line 1).start → b ≡ begin_shown (old_from (word_at line p))
    → b ≡ begin_shown (old_from (word line 1))
from-word line p b e h = h ∙ ap (λ (w : Word). begin_shown (old_from w)) (word-here line 1 p e)

pub to-word : (line : List ℕ) (p : ℕ) (b : Begin) → p ≡ (word line 2).start → b ≡ begin_shown (new_to (word_at line p))
    → b ≡ begin_shown (new_to (word line 2))
to-word line p b e h = h ∙ ap (λ (w : Word). begin_shown (new_to w)) (word-here line 2 p e)

-- the link of CHN by its stretch
pub link-lone : (ns : List (List ℕ)) → link_alone ns ≡ (link_name (lone_of ns) && not (same (lone_of ns) (45 ∷ [])))
unfolding link_name
link-lone [] = refl
link-lone (n ∷ []) = refl
link-lone (n ∷ m ∷ ns) = refl

-- the depth of LST* by its stretch
pub depth_lone : (ns : List (List ℕ)) → shown_part (depth_given ns)
    ≡ cond (eqb (length (lone_of ns)) 1 && (leb 49 (get_or (lone_of ns) 0 0) && leb (get_or (lone_of ns) 0 0) 56))
    (Some (get_or (lone_of ns) 0 0 - 48)) None
unfolding depth_of
depth_lone [] = refl
depth_lone (n ∷ []) = go (eqb (length n) 1 && (leb 49 (get_or n 0 0) && leb (get_or n 0 0) 56))
  where
    go : (b : Bool) → shown_part (cond b (given (get_or n 0 0 - 48)) not_given) ≡ cond b (Some (get_or n 0 0 - 48)) None
    go true = refl
    go false = refl
depth_lone (n ∷ m ∷ ns) = refl

-- a name comes after the one at p where a colon joins it
pub joined-some : (line : List ℕ) (p : ℕ) → is_some (next_at line p) ≡ joined line p
joined-some line p = go (joined line p)
  where
    go : (b : Bool) → is_some (cond b (Some (next_name line p)) None) ≡ b
    go true = refl
    go false = refl

-- the function is known by the stretch of the first word
pub function-lone : (ns : List (List ℕ)) → function_of (lone_of ns ∷ []) ≡ function_of ns
unfolding function_of same
function-lone [] = refl
function-lone (n ∷ []) = refl
function-lone (n ∷ m ∷ ns) = refl

-- and decides what is read
pub function-read : (line : List ℕ) → read_function line ≡ read_by (function_of (word line 0).names) line
unfolding read_function function_of
function-read line =
    go (is_function 67 82 68 line) (is_function 87 82 83 line) (is_function 82 68 83 line) (is_function 67 80 89 line) (is_function 68 85 80 line)
    (is_function 67 72 78 line) (is_function 68 69 76 line) (is_function 68 83 84 line) (is_function 68 80 82 line) (is_function 76 83 84 line) (is_tree line)
    (is_rewrite line)
  where
    go : (a b c d e f g h i j k l : Bool)
        → cond a (read_crd line) (cond b (read_wrs line) (cond c (read_rds line) (cond d (read_cpy line) (cond e (read_dup line)
        (cond f (read_chn line) (cond g (read_names del line) (cond h (read_names dst line) (cond i (read_dpr line) (cond j (read_lst line)
        (cond k (read_tree line) (cond l (read_rewrite line) (unread (refusal_at 5 (whole 0))))))))))))))
        ≡ read_by (cond a (Some function.Crd) (cond b (Some function.Wrs) (cond c (Some function.Rds) (cond d (Some function.Cpy) (cond e (Some function.Dup)
        (cond f (Some function.Chn) (cond g (Some function.Del) (cond h (Some function.Dst) (cond i (Some function.Dpr) (cond j (Some function.Lst)
        (cond k (Some function.LstTree) (cond l (Some function.Rewrite) None)))))))))))) line
    go true b c d e f g h i j k l = refl
    go false true c d e f g h i j k l = refl
    go false false true d e f g h i j k l = refl
    go false false false true e f g h i j k l = refl
    go false false false false true f g h i j k l = refl
    go false false false false false true g h i j k l = refl
    go false false false false false false true h i j k l = refl
    go false false false false false false false true i j k l = refl
    go false false false false false false false false true j k l = refl
    go false false false false false false false false false true k l = refl
    go false false false false false false false false false false true l = refl
    go false false false false false false false false false false false true = refl
    go false false false false false false false false false false false false = refl

-- what the first word's function reads, by the word's place and its stretch
pub first_word : (line : List ℕ) (p : ℕ) (w : List ℕ) (f : Option Function) → p ≡ (word line 0).start → w ≡ lone_of (names_from line p)
    → f ≡ function_of (w ∷ []) → read_function line ≡ read_by f line
first_word line p w f e h k =
    let z : function_of (word line 0).names ≡ f = rw (word-names line 0, ← e, ← function-lone (names_from line p), ← h) (sym k) in
    function-read line ∙ ap (λ (x : Option Function). read_by x line) z

-- the function of a name by its length and its first letters
abbrev of_three : (a b c : ℕ) → Option Function
of_three a b c =
    cond (eqb a 67 && (eqb b 82 && eqb c 68)) (Some function.Crd)
    (cond (eqb a 87 && (eqb b 82 && eqb c 83)) (Some function.Wrs)
    (cond (eqb a 82 && (eqb b 68 && eqb c 83)) (Some function.Rds)
    (cond (eqb a 67 && (eqb b 80 && eqb c 89)) (Some function.Cpy)
    (cond (eqb a 68 && (eqb b 85 && eqb c 80)) (Some function.Dup)
    (cond (eqb a 67 && (eqb b 72 && eqb c 78)) (Some function.Chn)
    (cond (eqb a 68 && (eqb b 69 && eqb c 76)) (Some function.Del)
    (cond (eqb a 68 && (eqb b 83 && eqb c 84)) (Some function.Dst)
    (cond (eqb a 68 && (eqb b 80 && eqb c 82)) (Some function.Dpr)
    (cond (eqb a 76 && (eqb b 83 && eqb c 84)) (Some function.Lst)
    None)))))))))

abbrev of_four : (a b c d : ℕ) → Option Function
of_four a b c d =
    cond (eqb a 76 && (eqb b 83 && (eqb c 84 && eqb d 42))) (Some function.LstTree)
    (cond (eqb a 87 && (eqb b 82 && (eqb c 83 && eqb d 42))) (Some function.Rewrite)
    None)

pub by_letters : (n : List ℕ) → function_of (n ∷ [])
    ≡ cond (eqb (length n) 3) (of_three (get_or n 0 0) (get_or n 1 0) (get_or n 2 0))
    (cond (eqb (length n) 4) (of_four (get_or n 0 0) (get_or n 1 0) (get_or n 2 0) (get_or n 3 0)) None)
unfolding function_of same
by_letters [] = refl
by_letters (a ∷ []) = simp and-false
by_letters (a ∷ b ∷ []) = simp and-false
by_letters (a ∷ b ∷ c ∷ []) = simp (and-true, and-false)
by_letters (a ∷ b ∷ c ∷ d ∷ []) = simp (and-true, and-false)
by_letters (a ∷ b ∷ c ∷ d ∷ e ∷ s) =
    let n = a ∷ b ∷ c ∷ d ∷ e ∷ s in
    rw (ne_eqb (length n) 3 (omega arith), ne_eqb (length n) 4 (omega arith)) (simp and-false)

-- no name of three letters, or of four, starts with another, and none of three goes on otherwise after a D
pub no_three : (n : List ℕ) → length n ≡ 3 → (get_or n 0 0 ≡ 67 → ⊥) → (get_or n 0 0 ≡ 87 → ⊥) → (get_or n 0 0 ≡ 82 → ⊥)
    → (get_or n 0 0 ≡ 68 → ⊥) → (get_or n 0 0 ≡ 76 → ⊥) → None ≡ function_of (n ∷ [])
no_three n l h i j k m =
    let a = get_or n 0 0 in
    rw (by_letters n, eq-eqb (length n) 3 l, ne_eqb a 67 h, ne_eqb a 87 i, ne_eqb a 82 j, ne_eqb a 68 k, ne_eqb a 76 m)

pub no_d : (n : List ℕ) → length n ≡ 3 → get_or n 0 0 ≡ 68 → (get_or n 1 0 ≡ 85 → ⊥) → (get_or n 1 0 ≡ 69 → ⊥) → (get_or n 1 0 ≡ 83 → ⊥)
    → (get_or n 1 0 ≡ 80 → ⊥) → None ≡ function_of (n ∷ [])
no_d n l f h i j k =
    let b = get_or n 1 0 in
    rw (by_letters n, eq-eqb (length n) 3 l, f, ne_eqb b 85 h, ne_eqb b 69 i, ne_eqb b 83 j, ne_eqb b 80 k)

pub no_four : (n : List ℕ) → length n ≡ 4 → (get_or n 0 0 ≡ 76 → ⊥) → (get_or n 0 0 ≡ 87 → ⊥) → None ≡ function_of (n ∷ [])
no_four n l h i =
    let a = get_or n 0 0 in
    rw (by_letters n, ne_eqb (length n) 3 (omega arith), eq-eqb (length n) 4 l, ne_eqb a 76 h, ne_eqb a 87 i)

-- a passed count has at least the least number of arguments
pub count-least : (least most : ℕ) (line : List ℕ) (cs : List Check) (u : Unit) → Ok u ≡ shown_verdict (verdict (miscounted least most line ∷ cs))
    → least ≤ length (words line) - 1
unfolding verdict counted
count-least least most line cs u h = go (leb least (length (words line) - 1)) (leb (length (words line) - 1) most) refl h
  where
    go : (a b : Bool) → leb least (length (words line) - 1) ≡ a
        → Ok u ≡ shown_verdict (cond (not (a && b)) (refused (miscounted least most line).refusal) (verdict cs))
        → least ≤ length (words line) - 1
    go true b f g = leb-true least (length (words line) - 1) f
    go false b f g = clash (cc)

-- the words after the first
module _ (line : List ℕ) (l : 1 ≤ length (words line) - 1) where
  pub rest-first : first_start (drop 1 (words line)) ≡ (word line 1).start
  unfolding word
  rest-first = rw (drop-cons (words line) 1 (record { start = length line; names = [] ∷ [] }) (omega arith))

  pub rest-count : length (drop 1 (words line)) ≡ length (words line) - 1
  rest-count = length-drop 1 (words line)

-- the request of some names, by the place of the first and their count
pub removal-shown : (destroys : Bool) (ws : List Word) → removed destroys (first_start ws) (length ws) ≡ shown_request (removing destroys ws)
removal-shown true ws = refl
removal-shown false ws = refl
