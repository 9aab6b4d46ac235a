-- Depth 1 is LST, for every name and with every refusal; and a deeper listing, its deeper lines left out, is the shallower one: below
-- an entry only the lines of a directory one level down stand, so leaving out what is too deep is leaving it out of each of these.
use mathlib.Core.Bool.{Bool, true, false, ◌&&◌, not, cond}
use mathlib.Core.List.{List, [], ◌∷◌, ◌++◌, append-nil, append_assoc}
use mathlib.Core.Path.{◌≡◌, refl, sym, ap, ◌∙◌}
use Prim.Native.Nat.{ℕ, zero, suc, ◌+◌, ◌-◌, ◌*◌, ◌≤◌, ◌<◌}
use native.Mathlib.Nat.{zero-add}
use native.Mathlib.Omega.{arith}
use lib.Dec.{ltb}
use lib.ListN.{length, take}
use borrow.Author.Tests.{lt-ltb, le-ltb, le-leb}
use Rattle.paper.specs.Record.{heading_named}
use Rattle.paper.specs.Layout.{name_of, boxed}
use Rattle.paper.specs.Table.{rec}
use Rattle.paper.specs.Name.{same, dot_w, lone_point}
use Rattle.paper.specs.Line.{Word, words, word, legal_line}
use Rattle.paper.specs.Check.{Verdict, passed, refused, verdict}
use Rattle.paper.specs.Request.{Begin, own, take_of, give_to, lst, lst_base, lst_tree, lst_base_tree, request, after, counted, malformed, illegal_but, is_take, old_from, depth_of, read_lst, read_tree, read_function, read, with_text, asked}
use Rattle.paper.specs.Entry.{base_list, in_directory, stands}
use Rattle.paper.specs.Walk.{State, start, file, End, arrived, astray, ended}
use Rattle.paper.specs.Listing.{listed, lines, sub_line, opens, entry_by, lines_by, tree}
use Rattle.paper.specs.Effect.{Planned, inward, chain_of, list_of, begun, lst_plan, lst_base_plan, lst_tree_plan, lst_base_tree_plan}
use Rattle.paper.specs.Answer.{granted, entrance, admitted, acted, requested}

-- ---- "Depth 1 equals LST"

nothing-below : (b : Bool) → ◌≡◌ {A = List ℕ} (cond b [] []) []
nothing-below true = refl
nothing-below false = refl

own-lines : (t es : List ℕ) → lines_by (entry_by boxed (λ h. []) t 0) es ≡ lines boxed t es
unfolding lines_by entry_by lines
own-lines t [] = refl
own-lines t (e ∷ es) = rw (nothing-below (opens t e), append-nil, own-lines t es)

one-level : (t : List ℕ) (test : List ℕ → Bool) → tree boxed t 1 0 test ≡ lines boxed t (listed boxed t test)
unfolding tree
one-level t test = own-lines t (listed boxed t test)

same_end : (z : End) (f g : State → State → Planned) → ((d s : State) → f d s ≡ g d s) → inward 1 z f ≡ inward 1 z g
same_end (arrived d s) f g h = h d s
same_end (astray number link) f g h = refl

-- the plan, of two words that have the same names
plan-one : (t : List ℕ) (v : ℕ) (reply : List ℕ) (w x : Word) → x.names ≡ w.names → lst_tree_plan boxed t v reply x 1 ≡ lst_plan boxed t v reply w
unfolding lst_tree_plan lst_plan
plan-one t v reply w x e =
    rw e (same_end (ended boxed t (start v) (chain_of w)) _ _ (λ d f. rw (one-level t (stands (in_directory (file t f))))))

plan-base-one : (t : List ℕ) (u : ℕ) (reply : List ℕ) → lst_base_tree_plan boxed t u reply 1 ≡ lst_base_plan boxed t u reply
unfolding lst_base_tree_plan lst_base_plan
plan-base-one t u reply = rw (one-level t (λ r. stands (base_list u) r && not (same dot_w (name_of boxed r))))

begun-names : (from : Begin) (w x : Word) → x.names ≡ w.names → (begun from x).names ≡ (begun from w).names
begun-names own w x e = e
begun-names (take_of n) w x e = rw e
begun-names (give_to n) w x e = rw e

module _ (t text reply : List ℕ) (u k : ℕ) where
  granted-one : (from : Begin) (w x : Word) → x.names ≡ w.names
      → granted boxed t text reply u k (lst_tree from x 1) ≡ granted boxed t text reply u k (lst from w)
  unfolding granted
  granted-one from w x e = rw (plan-one t (list_of u from) reply (begun from w) (begun from x) (begun-names from w x e))

  granted-base-one : granted boxed t text reply u k (lst_base_tree 1) ≡ granted boxed t text reply u k lst_base
  unfolding granted
  granted-base-one = rw (plan-base-one t u reply)

  after_one : (v : Verdict) (from : Begin) (w x : Word) → x.names ≡ w.names
      → acted boxed t text reply u k (with_text text (after v (request (lst_tree from x 1))))
      ≡ acted boxed t text reply u k (with_text text (after v (request (lst from w))))
  unfolding verdict
  after_one passed from w x e = granted-one from w x e
  after_one (refused f) from w x e = refl

-- a line whose function is the bytes f, of so many arguments
pub record Asks (f : List ℕ) (arguments : ℕ) (line : List ℕ) : Type 0 where
  pub legal : legal_line line ≡ true
  pub function : (word line 0).names ≡ f ∷ []
  pub count : length (words line) ≡ suc arguments

counts : (f : List ℕ) (n : ℕ) (line : List ℕ) → Asks f n line → counted n n line ≡ true
unfolding counted
counts f n line a = let e : length (words line) - 1 ≡ n = omega (arith, a.count) in rw (e, le-leb n n (omega arith))

read-lst : (line : List ℕ) → Asks (76 ∷ 83 ∷ 84 ∷ []) 1 line → read line ≡ read_lst line
unfolding read read_function same
read-lst line a = rw (a.legal, a.function)

read-tree : (line : List ℕ) → Asks (76 ∷ 83 ∷ 84 ∷ 42 ∷ []) 2 line → read line ≡ read_tree line
unfolding read read_function same
read-tree line a = rw (a.legal, a.function)

-- the theorem: `LST` name and `LST*` name 1 answer alike, refusals and all, on every table
pub depth-one : (t a b text reply : List ℕ) (u k : ℕ) → Asks (76 ∷ 83 ∷ 84 ∷ []) 1 a → Asks (76 ∷ 83 ∷ 84 ∷ 42 ∷ []) 2 b
    → (word b 1).names ≡ (word a 1).names → (word b 2).names ≡ (49 ∷ []) ∷ [] → requested boxed t b text reply u k ≡ requested boxed t a text reply u k
unfolding requested asked read_lst read_tree old_from depth_of verdict word
depth-one t a b text reply u k x y e d = go (entrance boxed t u)
  where
    point : (c : Bool) → lone_point (word a 1).names ≡ c
        → acted boxed t text reply u k (with_text text (read_tree b)) ≡ acted boxed t text reply u k (with_text text (read_lst a))
    point true q = rw (e, q, counts _ 1 a x, counts _ 2 b y, d) (granted-base-one t text reply u k)
    point false q =
        rw (e, q, counts _ 1 a x, counts _ 2 b y, d)
        (after_one t text reply u k (verdict (malformed 1 (word a 1) ∷ illegal_but is_take 1 (word a 1) ∷ [])) (old_from (word a 1)) (word a 1) (word b 1) e)

    go : (v : Verdict) → admitted boxed t b text reply u k v ≡ admitted boxed t a text reply u k v
    go (refused f) = refl
    go passed = rw (read-lst a x, read-tree b y) (point (lone_point (word a 1).names) refl)

-- ---- the deeper lines left out

-- a line of the tree: how many levels its entry stands below the first, and the entry
pub record Row : Type 0 where
  pub level : ℕ
  pub entry : ℕ

unfoldable pub rows_by : (ℕ → List Row) → List ℕ → List Row
rows_by each [] = []
rows_by each (e ∷ es) = each e ++ rows_by each es

unfoldable pub entry_rows : (ℕ → List Row) → List ℕ → ℕ → ℕ → List Row
entry_rows below t level e = record { level = level; entry = e } ∷ cond (opens t e) (below (heading_named (rec t e))) []

-- the lines of the entries that pass the test, to a depth, from a level on
unfoldable pub rows : List ℕ → (depth level : ℕ) → (List ℕ → Bool) → List Row
rows t zero level test = []
rows t (suc depth) level test = rows_by (entry_rows (λ h. rows t depth (suc level) (stands (in_directory h))) t level) (listed boxed t test)

-- as bytes
unfoldable pub shown : List ℕ → List Row → List ℕ
shown t [] = []
shown t (r ∷ rs) = sub_line boxed t (r.level * 2) r.entry ++ shown t rs

-- those of fewer levels
unfoldable pub above : ℕ → List Row → List Row
above n [] = []
above n (r ∷ rs) = cond (ltb r.level n) (r ∷ above n rs) (above n rs)

shown-append : (t : List ℕ) (xs ys : List Row) → shown t (xs ++ ys) ≡ shown t xs ++ shown t ys
unfolding shown
shown-append t [] ys = refl
shown-append t (r ∷ xs) ys =
    rw (shown-append t xs ys) (sym (append_assoc (sub_line boxed t (r.level * 2) r.entry) (shown t xs) (shown t ys)))

above-append : (n : ℕ) (xs ys : List Row) → above n (xs ++ ys) ≡ above n xs ++ above n ys
unfolding above
above-append n [] ys = refl
above-append n (r ∷ xs) ys = rw (above-append n xs ys) (go (ltb r.level n))
  where
    go : (b : Bool) → cond b (r ∷ above n xs ++ above n ys) (above n xs ++ above n ys) ≡ cond b (r ∷ above n xs) (above n xs) ++ above n ys
    go true = refl
    go false = refl

-- the tree is its lines, one after the other
module _ (t : List ℕ) where
  lines_rows : (f : ℕ → List ℕ) (g : ℕ → List Row) → ((e : ℕ) → f e ≡ shown t (g e)) → (es : List ℕ) → lines_by f es ≡ shown t (rows_by g es)
  unfolding lines_by rows_by shown
  lines_rows f g h [] = refl
  lines_rows f g h (e ∷ es) = rw (h e, lines_rows f g h es) (sym (shown-append t (g e) (rows_by g es)))

  entry-rows : (f : ℕ → List ℕ) (g : ℕ → List Row) (level : ℕ) → ((h : ℕ) → f h ≡ shown t (g h)) → (e : ℕ)
      → entry_by boxed f t (level * 2) e ≡ shown t (entry_rows g t level e)
  unfolding entry_by entry_rows shown
  entry-rows f g level q e = ap (λ (x : List ℕ). sub_line boxed t (level * 2) e ++ x) (go (opens t e))
    where
      go : (b : Bool) → cond b (f (heading_named (rec t e))) [] ≡ shown t (cond b (g (heading_named (rec t e))) [])
      go true = q (heading_named (rec t e))
      go false = unfold shown in refl

  pub tree-rows : (depth level : ℕ) (test : List ℕ → Bool) → tree boxed t depth (level * 2) test ≡ shown t (rows t depth level test)
  unfolding tree rows shown
  tree-rows zero level test = refl
  tree-rows (suc depth) level test =
      let q : level * 2 + 2 ≡ suc level * 2 = omega arith in
      rw q (lines_rows _ _ (entry-rows _ _ level (λ h. tree-rows depth (suc level) (stands (in_directory h)))) (listed boxed t test))

-- ---- what is left out

rows_above : (n : ℕ) (f g : ℕ → List Row) → ((e : ℕ) → above n (f e) ≡ g e) → (es : List ℕ) → above n (rows_by f es) ≡ rows_by g es
unfolding rows_by above
rows_above n f g h [] = refl
rows_above n f g h (e ∷ es) = above-append n (f e) (rows_by f es) ∙ rw (h e, rows_above n f g h es)

rows_none : (es : List ℕ) → rows_by (λ e. []) es ≡ []
unfolding rows_by
rows_none [] = refl
rows_none (e ∷ es) = rows_none es

above-under : (n : ℕ) (b : Bool) (xs ys : List Row) → above n xs ≡ ys → above n (cond b xs []) ≡ cond b ys []
unfolding above
above-under n true xs ys e = e
above-under n false xs ys e = refl

-- an entry's lines: its own is left out, and with it all that is deeper
entry-none : (n : ℕ) (f : ℕ → List Row) (t : List ℕ) (level e : ℕ) → n ≤ level → above n (f (heading_named (rec t e))) ≡ []
    → above n (entry_rows f t level e) ≡ []
unfolding above entry_rows
entry-none n f t level e l q =
    rw (le-ltb level n l) (above-under n (opens t e) (f (heading_named (rec t e))) [] q ∙ no_rows (opens t e))
  where
    no_rows : (b : Bool) → ◌≡◌ {A = List Row} (cond b [] []) []
    no_rows true = refl
    no_rows false = refl

-- .. or it stays, and of what is under it what is not too deep
entry-some : (n : ℕ) (f g : ℕ → List Row) (t : List ℕ) (level e : ℕ) → level < n → ((h : ℕ) → above n (f h) ≡ g h)
    → above n (entry_rows f t level e) ≡ entry_rows g t level e
unfolding above entry_rows
entry-some n f g t level e l q =
    rw (lt-ltb level n l)
    (ap (λ (x : List Row). record { level = level; entry = e } ∷ x)
    (above-under n (opens t e) (f (heading_named (rec t e))) (g (heading_named (rec t e))) (q (heading_named (rec t e)))))

none_above : (t : List ℕ) (depth level : ℕ) (test : List ℕ → Bool) (n : ℕ) → n ≤ level → above n (rows t depth level test) ≡ []
unfolding rows above
none_above t zero level test n l = refl
none_above t (suc depth) level test n l =
    rows_above n _ (λ e. [])
    (λ e. entry-none n _ t level e l (none_above t depth (suc level) (stands (in_directory (heading_named (rec t e)))) n (omega arith)))
    (listed boxed t test)
    ∙ rows_none (listed boxed t test)

-- the theorem: of a deeper listing the lines of fewer levels than the depth are the listing of that depth, in its order
pub shallower : (t : List ℕ) (depth more level : ℕ) (test : List ℕ → Bool)
    → above (level + depth) (rows t (depth + more) level test) ≡ rows t depth level test
unfolding rows above
shallower t zero more level test = rw zero-add (none_above t more level test (level + 0) (omega arith))
shallower t (suc depth) more level test =
    let a : suc depth + more ≡ suc (depth + more) = omega arith in
    let b : level + suc depth ≡ suc level + depth = omega arith in
    rw (a, b)
    (rows_above (suc level + depth) _ _
    (λ e. entry-some (suc level + depth) _ _ t level e (omega arith) (λ h. shallower t depth more (suc level) (stands (in_directory h))))
    (listed boxed t test))

-- .. and begins with its first line
pub first-line : (t : List ℕ) (depth level : ℕ) (test : List ℕ → Bool) → take 1 (rows t (suc depth) level test) ≡ take 1 (rows t 1 level test)
unfolding rows rows_by entry_rows
first-line t depth level test = go (listed boxed t test)
  where
    go : (es : List ℕ) → take 1 (rows_by (entry_rows (λ h. rows t depth (suc level) (stands (in_directory h))) t level) es)
        ≡ take 1 (rows_by (entry_rows (λ h. []) t level) es)
    go [] = refl
    go (e ∷ es) = refl
