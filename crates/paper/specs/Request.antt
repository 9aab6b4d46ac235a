-- "The first word is the function." Reading a line: the request, or number 4 to 9 or 27, and 10 for its text.
use Rattle.std.specs.Prelude.{Bool, false, ◌&&◌, ◌||◌, not, cond, List, [], ◌∷◌, ◌++◌, ℕ, suc, ◌+◌, ◌-◌, eqb, leb, ltb, length, get_or, take, drop}
use Rattle.paper.specs.Name.{link_name, pointed, chain, alone, dash, lone_point, well_formed, legal_base, base_name, user_name, user_number}
use Rattle.paper.specs.Declaration.{Part, given, not_given, Parts, Declared, right, nothing, declared, parts_of, fits, fit_crd, fit_rewrite, fit_cpy, fit_dup, wrs_lifetime, dpr_code}
use Rattle.paper.specs.Octal.{Octal, number, octal, part_of, is_number, is_count}
use Rattle.paper.specs.Line.{Word, words, word, legal_line}
use Rattle.paper.specs.Check.{at_link, whole, Refusal, refusal_at, Check, check, Verdict, passed, refused, verdict}

-- where a chain starts: in the base list of the user who asks; an old name, "at that user's `.T`"; a new name, "in that user's `.G`"
pub data Begin : Type 0 where
  own : Begin
  take_of : (user : ℕ) → Begin
  give_to : (user : ℕ) → Begin

-- "Nine functions": their names are words of the line, their declared parts given or not; what is needed is a number
pub data Request : Type 0 where
  crd : (name : Word) (level code : Part) → Request
  wrs : (lifetime : ℕ) (level code : Part) (name : Word) → Request
  rds : (from : Begin) (name : Word) (first count : Part) → Request
  cpy : (from : Begin) (old new : Word) (lifetime level code : Part) → Request
  dup : (from : Begin) (old : Word) (to : Begin) (new : Word) (code : Part) → Request
  chn : (old link : Word) → Request
  del : (names : List Word) → Request
  dst : (names : List Word) → Request
  dpr : (name : Word) (code : ℕ) → Request
  lst : (from : Begin) (name : Word) → Request
  lst_base : Request
  lst_tree : (from : Begin) (name : Word) (depth : ℕ) → Request
  lst_base_tree : (depth : ℕ) → Request
  rewrite : (name : Word) → Request

pub data Read : Type 0 where
  request : Request → Read
  unread : Refusal → Read

-- what is read after checks: the refusal of the first that refuses comes before it
abbrev pub after : Verdict → Read → Read
after passed x = x
after (refused f) x = unread f

abbrev pub read_as : Request → Verdict → Read
read_as r v = after v (request r)

-- 6: the line has from least to most arguments
unfoldable pub counted : ℕ → ℕ → List ℕ → Bool
counted least most line = leb least (length (words line) - 1) && leb (length (words line) - 1) most

abbrev pub miscounted : ℕ → ℕ → List ℕ → Check
miscounted least most line = check (not (counted least most line)) 6 (whole 0)

-- "For 7 and 8 it is the first wrong name": the first that is no link name, the names counted from k on;
-- "0 for a lone dash, a chain only too long"
unfoldable pub first_wrong : ℕ → List (List ℕ) → ℕ
first_wrong k [] = 0
first_wrong k (n ∷ ns) = cond (link_name n) (first_wrong (suc k) ns) k

-- "with the supplied `.W` as link 1": the number of the first name as it is written
abbrev pub first_link : List (List ℕ) → ℕ
first_link ns = cond (pointed (get_or ns 0 [])) 1 2

-- 7: "malformed name or chain", the argument w of this number
abbrev pub malformed : ℕ → Word → Check
malformed argument w =
    check (not (well_formed w.names)) 7 (at_link argument (first_wrong (first_link w.names) w.names))

-- 8: "illegal base name"
abbrev pub illegal : ℕ → Word → Check
illegal argument w = check (not (legal_base (base_name w.names))) 8 (at_link argument 1)

-- the first name of an argument, and how it starts where it may be `.nnnnnn`
abbrev pub first_name : Word → List ℕ
first_name w = get_or w.names 0 []

unfoldable pub old_from : Word → Begin
old_from w = cond (user_name (first_name w)) (take_of (user_number (first_name w))) own

unfoldable pub new_to : Word → Begin
new_to w = cond (user_name (first_name w)) (give_to (user_number (first_name w))) own

-- "As an old name in .. CPY, or in RDS and LST"
abbrev pub is_take : Word → Bool
is_take w = user_name (first_name w)

-- "As an old name in DUP": not bare, "which would hand over the take directory itself"
abbrev pub is_take_within : Word → Bool
is_take_within w = user_name (first_name w) && leb 2 (length w.names)

-- "A new name `.nnnnnn:link` in DUP": not "a give with no link or more than one"
abbrev pub is_give : Word → Bool
is_give w = user_name (first_name w) && eqb (length w.names) 2

-- 8 where an argument may start so: "In every other place it still gets 8"
abbrev pub illegal_but : (Word → Bool) → ℕ → Word → Check
illegal_but starts argument w = check (not (starts w || legal_base (base_name w.names))) 8 (at_link argument 1)

-- 9: "declaration malformed or unfit"
abbrev pub unfit : ℕ → Bool → Check
unfit argument fit = check (not fit) 9 (whole argument)

-- a check for each of some words, which stand at the places from p on
unfoldable pub each : (ℕ → Word → Check) → ℕ → List Word → List Check
each f p [] = []
each f p (w ∷ ws) = f p w ∷ each f (p + 1) ws

-- the words from number a up to number b, without b
unfoldable pub between : ℕ → ℕ → List ℕ → List Word
between a b line = take (b - a) (drop a (words line))

-- "Numbers .. are tried in that order over the whole line, arguments from left to right within each": 7 for each name, then 8 for each
abbrev pub misnamed : ℕ → ℕ → List ℕ → List Check
misnamed a b line = each malformed a (between a b line) ++ each illegal a (between a b line)

-- the declaration that word k is, or nothing given where there is no word k
unfoldable pub declared_at : List ℕ → ℕ → Declared
declared_at line k = cond (ltb k (length (words line))) (declared (word line k).names) (right nothing)

abbrev pub parts_at : List ℕ → ℕ → Parts
parts_at line k = parts_of (declared_at line k)

-- the number that word k is, or nothing given where there is no word k
unfoldable pub octal_at : List ℕ → ℕ → Octal
octal_at line k = cond (ltb k (length (words line))) (octal (word line k).names) (number not_given)

-- 27: "bad number"
abbrev pub bad_number : ℕ → Bool → Check
bad_number argument fit = check (not fit) 27 (whole argument)

-- the request with the number of a part that it needs, or 9 for the declaration that is this argument
abbrev pub needed : ℕ → Part → (ℕ → Request) → Read
needed argument (given n) r = request (r n)
needed argument not_given r = unread (refusal_at 9 (whole argument))

-- "CRD name [decl]"
unfoldable pub read_crd : List ℕ → Read
read_crd line =
    read_as (crd (word line 1) (parts_at line 2).level (parts_at line 2).code)
    (verdict (miscounted 1 2 line ∷ misnamed 1 2 line ++ unfit 2 (fits fit_crd (declared_at line 2)) ∷ []))

-- "WRS decl name"
unfoldable pub read_wrs : List ℕ → Read
read_wrs line =
    after (verdict (miscounted 2 2 line ∷ misnamed 2 3 line))
    (needed 1 (wrs_lifetime (declared_at line 1)) (λ lifetime. wrs lifetime (parts_at line 1).level (parts_at line 1).code (word line 2)))

-- "RDS name first count": "27 bad number, straight after 9"
unfoldable pub read_rds : List ℕ → Read
read_rds line =
    read_as (rds (old_from (word line 1)) (word line 1) (part_of (octal_at line 2)) (part_of (octal_at line 3)))
    (verdict
    (miscounted 1 3 line
    ∷ malformed 1 (word line 1)
    ∷ illegal_but is_take 1 (word line 1)
    ∷ bad_number 2 (is_number (octal_at line 2))
    ∷ bad_number 3 (is_count (octal_at line 3))
    ∷ []))

-- "LST name". "LST of a lone point lists the user's base files other than `.W`."
unfoldable pub read_lst : List ℕ → Read
read_lst line =
    cond (lone_point (word line 1).names) (read_as lst_base (verdict (miscounted 1 1 line ∷ [])))
    (read_as (lst (old_from (word line 1)) (word line 1))
    (verdict (miscounted 1 1 line ∷ malformed 1 (word line 1) ∷ illegal_but is_take 1 (word line 1) ∷ [])))

-- "CPY, DUP old new [decl]"
unfoldable pub read_cpy : List ℕ → Read
read_cpy line =
    read_as (cpy (old_from (word line 1)) (word line 1) (word line 2) (parts_at line 3).lifetime (parts_at line 3).level (parts_at line 3).code)
    (verdict
    (miscounted 2 3 line
    ∷ malformed 1 (word line 1)
    ∷ malformed 2 (word line 2)
    ∷ illegal_but is_take 1 (word line 1)
    ∷ illegal 2 (word line 2)
    ∷ unfit 3 (fits fit_cpy (declared_at line 3))
    ∷ []))

unfoldable pub read_dup : List ℕ → Read
read_dup line =
    read_as (dup (old_from (word line 1)) (word line 1) (new_to (word line 2)) (word line 2) (parts_at line 3).code)
    (verdict
    (miscounted 2 3 line
    ∷ malformed 1 (word line 1)
    ∷ malformed 2 (word line 2)
    ∷ illegal_but is_take_within 1 (word line 1)
    ∷ illegal_but is_give 2 (word line 2)
    ∷ unfit 3 (fits fit_dup (declared_at line 3))
    ∷ []))

-- the link of CHN: one link name, and no dash
abbrev pub link_alone : List (List ℕ) → Bool
link_alone [] = false
link_alone (n ∷ []) = link_name n && not (dash (n ∷ []))
link_alone (n ∷ m ∷ ns) = false

abbrev pub unlinked : ℕ → Word → Check
unlinked argument w = check (not (link_alone w.names)) 7 (whole argument)

-- 8: "also CHN's link for a base file"
abbrev pub misbased : ℕ → Word → Word → Check
misbased argument old w =
    check (eqb (length (chain old.names)) 1 && not (legal_base (get_or w.names 0 []))) 8 (whole argument)

-- "CHN old link"
unfoldable pub read_chn : List ℕ → Read
read_chn line =
    read_as (chn (word line 1) (word line 2))
    (verdict
    (miscounted 2 2 line
    ∷ malformed 1 (word line 1)
    ∷ unlinked 2 (word line 2)
    ∷ illegal 1 (word line 1)
    ∷ misbased 2 (word line 1) (word line 2)
    ∷ []))

-- "DPR name decl"
unfoldable pub read_dpr : List ℕ → Read
read_dpr line =
    after (verdict (miscounted 2 2 line ∷ misnamed 1 2 line)) (needed 2 (dpr_code (declared_at line 2)) (λ code. dpr (word line 1) code))

-- "DEL 1 to 8 names"; document 02: "`DST` takes 1 to 8 names"
unfoldable pub read_names : (List Word → Request) → List ℕ → Read
read_names r line =
    read_as (r (drop 1 (words line))) (verdict (miscounted 1 8 line ∷ misnamed 1 (length (words line)) line))

-- "the digit's depth, 1 to 8": one byte
unfoldable pub depth_of : List ℕ → Part
depth_of w = cond (eqb (length w) 1 && (leb 49 (get_or w 0 0) && leb (get_or w 0 0) 56)) (given (get_or w 0 0 - 48)) not_given

-- a digit has no colon
abbrev pub depth_given : List (List ℕ) → Part
depth_given [] = not_given
depth_given (w ∷ []) = depth_of w
depth_given (w ∷ v ∷ ws) = not_given

-- "`LST*` name digit": the same names as LST, "a lone point and request g's `.nnnnnn` included"; "9 for another digit"
unfoldable pub read_tree : List ℕ → Read
read_tree line =
    cond (lone_point (word line 1).names)
    (after (verdict (miscounted 2 2 line ∷ [])) (needed 2 (depth_given (word line 2).names) (λ depth. lst_base_tree depth)))
    (after (verdict (miscounted 2 2 line ∷ malformed 1 (word line 1) ∷ illegal_but is_take 1 (word line 1) ∷ []))
    (needed 2 (depth_given (word line 2).names) (λ depth. lst_tree (old_from (word line 1)) (word line 1) depth)))

-- document 02: "`WRS*` decl name"
unfoldable pub read_rewrite : List ℕ → Read
read_rewrite line =
    read_as (rewrite (word line 2)) (verdict (miscounted 2 2 line ∷ misnamed 2 3 line ++ unfit 1 (fits fit_rewrite (declared_at line 1)) ∷ []))

-- the first word is the function of these three letters
abbrev pub is_function : ℕ → ℕ → ℕ → List ℕ → Bool
is_function a b c line = alone (a ∷ b ∷ c ∷ []) (word line 0).names

-- .. or `LST*` or `WRS*`, one word
abbrev pub is_tree : List ℕ → Bool
is_tree line = alone (76 ∷ 83 ∷ 84 ∷ 42 ∷ []) (word line 0).names

abbrev pub is_rewrite : List ℕ → Bool
is_rewrite line = alone (87 ∷ 82 ∷ 83 ∷ 42 ∷ []) (word line 0).names

-- 5: "no such function, empty line"
unfoldable pub read_function : List ℕ → Read
read_function line =
    cond (is_function 67 82 68 line) (read_crd line)
    (cond (is_function 87 82 83 line) (read_wrs line)
    (cond (is_function 82 68 83 line) (read_rds line)
    (cond (is_function 67 80 89 line) (read_cpy line)
    (cond (is_function 68 85 80 line) (read_dup line)
    (cond (is_function 67 72 78 line) (read_chn line)
    (cond (is_function 68 69 76 line) (read_names del line)
    (cond (is_function 68 83 84 line) (read_names dst line)
    (cond (is_function 68 80 82 line) (read_dpr line)
    (cond (is_function 76 83 84 line) (read_lst line)
    (cond (is_tree line) (read_tree line)
    (cond (is_rewrite line) (read_rewrite line)
    (unread (refusal_at 5 (whole 0))))))))))))))

-- 4: "line too long, or a byte outside 32..95"
unfoldable pub read : List ℕ → Read
read line = cond (legal_line line) (read_function line) (unread (refusal_at 4 (whole 0)))

-- 10: "WRS text above 24,000 bytes", and that of `WRS*`
abbrev pub text_too_long : Request → List ℕ → Bool
text_too_long (crd name level code) text = false
text_too_long (wrs lifetime level code name) text = ltb 24000 (length text)
text_too_long (rds from name first count) text = false
text_too_long (cpy from old new lifetime level code) text = false
text_too_long (dup from old to new code) text = false
text_too_long (chn old link) text = false
text_too_long (del names) text = false
text_too_long (dst names) text = false
text_too_long (dpr name code) text = false
text_too_long (lst from name) text = false
text_too_long lst_base text = false
text_too_long (lst_tree from name depth) text = false
text_too_long (lst_base_tree depth) text = false
text_too_long (rewrite name) text = ltb 24000 (length text)

abbrev pub with_text : List ℕ → Read → Read
with_text text (request r) = read_as r (verdict (check (text_too_long r text) 10 (whole 0) ∷ []))
with_text text (unread f) = unread f

-- what a line and its text ask for, or number 4 to 10 or 27
unfoldable pub asked : List ℕ → List ℕ → Read
asked line text = with_text text (read line)
