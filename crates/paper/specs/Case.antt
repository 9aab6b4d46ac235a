-- "At the edges": the cases marked P, one list. `proofs/Cases.antt` has the one claim over it; a new case is a new line.
use Rattle.std.specs.Prelude.{Bool, true, false, ◌&&◌, not, List, [], ◌∷◌, ◌++◌, ℕ, zero, suc, ◌+◌, ◌-◌, ◌*◌, ◌/◌, ◌%◌, eqb, length, replicate, take, drop}
use Rattle.paper.specs.Record.{blank}
use Rattle.paper.specs.Layout.{boxed}
use Rattle.paper.specs.Name.{same, dot_r}
use Rattle.paper.specs.Declaration.{Declared, right, wrong, declared}
use Rattle.paper.specs.Check.{at_link}
use Rattle.paper.specs.Code.{joined}
use Rattle.paper.specs.Block.{blocks}
use Rattle.paper.specs.Entry.{Holder, base_list, in_directory}
use Rattle.paper.specs.Answer.{Answer, Outcome, yes_no, requested, mending}
use Rattle.paper.specs.Index.{true_index, Met, looked_up, Kept, keeping, mend_keeping}
use Rattle.paper.specs.Sweep.{sweeping}

pub data Case : Type 0 where
  -- a code joined with another is this code
  joins : (one other both : ℕ) → Case
  -- a text of so many bytes takes so many text records
  takes : (bytes records : ℕ) → Case
  -- the word is a declaration, or isn't
  declares : (word : List ℕ) (is_one : Bool) → Case
  -- a request's table, line, text, reply, user and stop number; then the answer, the table after and the reply after
  asks : (table line text reply : List ℕ) (user stop : ℕ) (answer : Answer) (after replied : List ℕ) → Case
  -- mending with this stop number; then the answer and the table after
  mends : (table : List ℕ) (stop : ℕ) (answer : Answer) (after : List ℕ) → Case
  -- the true index of a table
  orders : (table index : List ℕ) → Case
  -- a look-up by a table and a list, of a name in a directory or a base list; then whether it is found, the entry and the count
  looks : (table index : List ℕ) (d : Holder) (name : List ℕ) (found : Bool) (entry count : ℕ) → Case
  -- a request's table, index, line, user and stop number; then the number, the table after and the index after
  keeps : (table index line : List ℕ) (user stop number : ℕ) (after kept : List ℕ) → Case
  -- .. and mending's
  mends_kept : (table index : List ℕ) (stop number : ℕ) (after kept : List ℕ) → Case
  -- a sweep's table, index and stop number; then the answer, the table after and the index after
  sweeps : (table index : List ℕ) (stop : ℕ) (answer : Answer) (after kept : List ℕ) → Case

abbrev pub is_right : Declared → Bool
is_right (right p) = true
is_right wrong = false

-- the seven numbers
abbrev pub answer : (number argument link names displaced bytes stores : ℕ) → Answer
answer number argument link names displaced bytes stores =
    record { number = number; place = at_link argument link; names = names; displaced = displaced; bytes = bytes; stores = stores }

abbrev pub same_answer : Answer → Answer → Bool
same_answer a b =
    eqb a.number b.number && eqb a.place.argument b.place.argument && eqb a.place.link b.place.link
    && eqb a.names b.names && eqb a.displaced b.displaced && eqb a.bytes b.bytes && eqb a.stores b.stores

-- the outcome is this answer, this table and this reply
abbrev pub comes_to : Answer → List ℕ → List ℕ → Outcome → Bool
comes_to a after replied o = same_answer o.answer a && same o.table after && same o.reply replied

-- the look-up answers so
abbrev pub meets : Bool → ℕ → ℕ → Met → Bool
meets true entry count m = m.found && eqb m.entry entry && eqb m.count count
meets false entry count m = not m.found && eqb m.entry entry && eqb m.count count

-- the number, the table after and the index after are these
abbrev pub leaves : ℕ → List ℕ → List ℕ → Kept → Bool
leaves number after kept o =
    eqb o.outcome.answer.number number && same o.outcome.table after && same o.index kept

unfoldable pub holds : Case → Bool
holds (joins one other both) = eqb (joined one other) both
holds (takes bytes records) = eqb (blocks bytes) records
holds (declares word true) = is_right (declared (word ∷ []))
holds (declares word false) = not (is_right (declared (word ∷ [])))
holds (asks table line text reply user stop a after replied) =
    comes_to a after replied (requested boxed table line text reply user stop)
holds (mends table stop a after) = comes_to a after [] (mending boxed table stop)
holds (orders table index) = same (true_index table) index
holds (looks table index d name found entry count) = meets found entry count (looked_up table index d name)
holds (keeps table index line user stop number after kept) =
    leaves number after kept (keeping table index line [] [] user stop)
holds (mends_kept table index stop number after kept) = leaves number after kept (mend_keeping table index stop)
holds (sweeps table index stop a after kept) =
    comes_to a after [] (sweeping table index stop).outcome && same (sweeping table index stop).index kept

unfoldable pub hold_all : List Case → Bool
hold_all [] = true
hold_all (c ∷ cs) = holds c && hold_all cs

-- `CRD .R`, `CRD .R:A`, `DEL .R`
abbrev pub crd_r : List ℕ
crd_r = 67 ∷ 82 ∷ 68 ∷ 32 ∷ 46 ∷ 82 ∷ []

abbrev pub crd_ra : List ℕ
crd_ra = crd_r ++ 58 ∷ 65 ∷ []

abbrev pub del_r : List ℕ
del_r = 68 ∷ 69 ∷ 76 ∷ 32 ∷ 46 ∷ 82 ∷ []

-- `RDS ` and a name; `WRS M .WWW`
abbrev pub rds : List ℕ → List ℕ
rds name = 82 ∷ 68 ∷ 83 ∷ 32 ∷ name

abbrev pub wrs_w : List ℕ
wrs_w = 87 ∷ 82 ∷ 83 ∷ 32 ∷ 77 ∷ 32 ∷ 46 ∷ 87 ∷ 87 ∷ 87 ∷ []

-- no records; one free record; two
abbrev pub one : List ℕ
one = replicate 32 0

abbrev pub pair : List ℕ
pair = replicate 64 0

-- "record 0 is 1,0,0,0,1", and document 02: "A heading now stores how many entries name it (bytes 12-13) and, for a directory, how many
-- it holds (bytes 14-15)"; "after `CRD .R` record 0 has 1 in byte 12"
abbrev pub box : (named holds : ℕ) → List ℕ
box named holds = 1 ∷ 0 ∷ 0 ∷ 0 ∷ 1 ∷ replicate 7 0 ++ named ∷ 0 ∷ holds ∷ 0 ∷ replicate 16 0

abbrev pub heading_r : List ℕ
heading_r = box 1 0

-- document 02: "Document 01's record 1 is worked out again": `.R` is the codes 14 and 50, and 14 * 64 + 50 is 178 + 3 * 256
abbrev pub entry_r : List ℕ
entry_r = 2 ∷ 0 ∷ 255 ∷ 255 ∷ 0 ∷ 0 ∷ 1 ∷ replicate 9 0 ++ 178 ∷ 3 ∷ replicate 14 0

-- bytes 9-31 of a name of one letter; and of a point and a letter, 14 * 64 + letter - 32 in all
abbrev pub one_letter : ℕ → List ℕ
one_letter letter = replicate 7 0 ++ (letter - 32) % 4 * 64 ∷ (letter - 32) / 4 ∷ replicate 14 0

abbrev pub point_letter : ℕ → List ℕ
point_letter letter = replicate 7 0 ++ (letter + 96) ∷ 3 ∷ replicate 14 0

-- a base file of user 1, of one letter, that names this heading
abbrev pub ours : (letter heading : ℕ) → List ℕ
ours letter heading = 2 ∷ 0 ∷ 255 ∷ 255 ∷ heading ∷ 0 ∷ 1 ∷ 0 ∷ 0 ∷ point_letter letter

-- `DUP ` old, a blank and new; `.000777`; `:A`
abbrev pub dup : List ℕ → List ℕ → List ℕ
dup old new = 68 ∷ 85 ∷ 80 ∷ 32 ∷ old ++ 32 ∷ new

abbrev pub night : List ℕ
night = 46 ∷ 48 ∷ 48 ∷ 48 ∷ 55 ∷ 55 ∷ 55 ∷ []

abbrev pub link : List ℕ
link = 58 ∷ 65 ∷ []

-- a base file of user 777, of one letter, that names this heading
abbrev pub nights : (letter heading : ℕ) → List ℕ
nights letter heading = 2 ∷ 0 ∷ 255 ∷ 255 ∷ heading ∷ 0 ∷ 9 ∷ 3 ∷ 0 ∷ point_letter letter

-- the directory `.R` of user 1, and `.G` of user 777; the entry A there, of the file that `.R` names, and the table with it
abbrev pub shelf : List ℕ
shelf = heading_r ++ entry_r ++ heading_r ++ nights 71 2

abbrev pub given : (base entry : List ℕ) → List ℕ
given base entry = box 2 0 ++ base ++ box 1 1 ++ nights 71 2 ++ entry

abbrev pub entry_a : List ℕ
entry_a = 2 ∷ 0 ∷ 2 ∷ replicate 13 0 ++ 64 ∷ 8 ∷ replicate 14 0

-- an entry with this code
abbrev pub coded : ℕ → List ℕ → List ℕ
coded code entry = 2 ∷ code ∷ drop 2 entry

-- the same two files, `.R` with code 4 in its entry
abbrev pub lent : List ℕ
lent = heading_r ++ coded 4 entry_r ++ heading_r ++ nights 71 2

-- a simple file without text, of this level, that so many entries name, or one; `.R` of user 1, such a file, and the directory `.T` of user 777
abbrev pub sheet_of : (level named : ℕ) → List ℕ
sheet_of level named = 1 ∷ 1 ∷ level ∷ 0 ∷ 1 ∷ replicate 7 0 ++ named ∷ replicate 19 0

abbrev pub sheet : (level : ℕ) → List ℕ
sheet level = sheet_of level 1

abbrev pub desk : List ℕ
desk = sheet 0 ++ entry_r ++ heading_r ++ nights 84 2

-- `CPY .R .G .` and the letter of a level; the entry of `.G` that it makes
abbrev pub cpy_rg : (letter : ℕ) → List ℕ
cpy_rg letter = 67 ∷ 80 ∷ 89 ∷ 32 ∷ dot_r ++ 32 ∷ 46 ∷ 71 ∷ 32 ∷ 46 ∷ letter ∷ []

abbrev pub entry_g : List ℕ
entry_g = ours 71 2

-- `.R:A` in user 1's `.R`, a simple file without text
abbrev pub inside : List ℕ
inside = box 1 1 ++ entry_r ++ sheet 0 ++ 2 ∷ 0 ∷ 0 ∷ 0 ∷ 2 ∷ replicate 11 0 ++ 64 ∷ 8 ∷ replicate 14 0

-- so many links `:A`
unfoldable pub links_a : ℕ → List ℕ
links_a zero = []
links_a (suc n) = link ++ links_a n

-- the simple file `.R` of user 1, its text `ABCDEFGHI`
abbrev pub lettered : List ℕ
lettered =
    1 ∷ 1 ∷ 0 ∷ 0 ∷ 1 ∷ 0 ∷ 0 ∷ 0 ∷ 0 ∷ 0 ∷ 9 ∷ 0 ∷ 1 ∷ replicate 19 0
    ++ 3 ∷ 9 ∷ 0 ∷ 0 ∷ 0 ∷ 0 ∷ 0 ∷ 0 ∷ 65 ∷ 66 ∷ 67 ∷ 68 ∷ 69 ∷ 70 ∷ 71 ∷ 72 ∷ 73 ∷ replicate 15 0
    ++ entry_r

-- `RDS .R` and what follows, on a table, with a reply buffer of n zeros: the number, the argument, and the bytes written
abbrev pub reads : (table after : List ℕ) (n number argument : ℕ) → List ℕ → Case
reads table after n number argument out =
    asks table (rds (dot_r ++ after)) [] (replicate n 0) 1 9
    (answer number argument 0 (yes_no (eqb number 0)) 0 (length out) 0) table (out ++ replicate (n - length out) 0)

-- `LST* ` name, a blank and a digit; an entry of code c, one letter, in directory d, that names heading h
abbrev pub lst_star : List ℕ → (digit : ℕ) → List ℕ
lst_star name digit = 76 ∷ 83 ∷ 84 ∷ 42 ∷ 32 ∷ name ++ 32 ∷ digit ∷ []

abbrev pub within : (d letter h c : ℕ) → List ℕ
within d letter h c = 2 ∷ c ∷ d ∷ 0 ∷ h ∷ 0 ∷ 0 ∷ 0 ∷ 0 ∷ one_letter letter

-- `.R` of user 1 holds the directory D, of this code, and the simple file E; D holds the simple file F, of code 1
abbrev pub branches_of : (first second third : List ℕ) (code : ℕ) → List ℕ
branches_of first second third code = first ++ entry_r ++ second ++ within 0 68 2 code ++ third ++ within 0 69 4 0 ++ within 2 70 4 1

abbrev pub branches : (code : ℕ) → List ℕ
branches = branches_of (box 1 2) (box 1 1) (sheet_of 1 2)

-- .. and their lines: `DM.U` and the code of D; `FM.P0    E`; two blanks and `FM.P1    F`
abbrev pub line_d : (code : ℕ) → List ℕ
line_d code = 68 ∷ 77 ∷ 46 ∷ 85 ∷ code ∷ 32 ∷ 32 ∷ 32 ∷ 32 ∷ 68 ∷ 13 ∷ 10 ∷ []

abbrev pub line_e : List ℕ
line_e = 70 ∷ 77 ∷ 46 ∷ 80 ∷ 48 ∷ 32 ∷ 32 ∷ 32 ∷ 32 ∷ 69 ∷ 13 ∷ 10 ∷ []

abbrev pub line_f : List ℕ
line_f = 70 ∷ 77 ∷ 46 ∷ 80 ∷ 49 ∷ 32 ∷ 32 ∷ 32 ∷ 32 ∷ 70 ∷ 13 ∷ 10 ∷ []

-- a directory `.R` of user 1 that holds itself as D
abbrev pub loop : List ℕ
loop = box 2 1 ++ entry_r ++ within 0 68 0 0

-- `WRS* `, a declaration and ` .R`; `CPY .R .G`; `DPR .R .1`
abbrev pub wrs_star : List ℕ → List ℕ
wrs_star decl = 87 ∷ 82 ∷ 83 ∷ 42 ∷ 32 ∷ decl ++ 32 ∷ dot_r

abbrev pub cpy_to_g : List ℕ
cpy_to_g = 67 ∷ 80 ∷ 89 ∷ 32 ∷ dot_r ++ 32 ∷ 46 ∷ 71 ∷ []

abbrev pub dpr_r : List ℕ
dpr_r = 68 ∷ 80 ∷ 82 ∷ 32 ∷ dot_r ++ 32 ∷ 46 ∷ 49 ∷ []

-- a simple file's heading of this code, lifetime, mark and length; its text at this position: a letter, n times
abbrev pub limits : (code lifetime mark n : ℕ) → List ℕ
limits code lifetime mark n = 1 ∷ 1 ∷ 0 ∷ code ∷ lifetime ∷ mark ∷ 0 ∷ 0 ∷ 0 ∷ 0 ∷ n ∷ 0 ∷ 1 ∷ replicate 19 0

abbrev pub written : (position letter n : ℕ) → List ℕ
written position letter n = 3 ∷ n ∷ 0 ∷ 0 ∷ position ∷ 0 ∷ 0 ∷ 0 ∷ replicate n letter ++ replicate (24 - n) 0

-- the file `.R` of user 1, its text `A`, and a free record; the same with 25 times `B`; marked, and what is left of its text
abbrev pub old_limits : List ℕ
old_limits = limits 0 1 0 1 ++ entry_r ++ written 0 65 1 ++ blank

abbrev pub new_limits : List ℕ
new_limits = limits 0 1 0 25 ++ entry_r ++ written 0 66 24 ++ written 1 66 1

abbrev pub half : List ℕ → List ℕ → List ℕ
half one other = limits 0 1 1 0 ++ entry_r ++ one ++ other

-- `WRS* M .R` with 25 times `B`, on a table, with this stop number: the number, the names done, the stores, and the table after
abbrev pub rewrites : (table : List ℕ) (stop number names stores : ℕ) → List ℕ → Case
rewrites table stop number names stores after =
    asks table (wrs_star (77 ∷ [])) (replicate 25 66) [] 1 stop (answer number 0 0 names 0 0 stores) after []

-- `CHN .R .G`; `DEL .R:A`
abbrev pub chn_rg : List ℕ
chn_rg = 67 ∷ 72 ∷ 78 ∷ 32 ∷ dot_r ++ 32 ∷ 46 ∷ 71 ∷ []

abbrev pub del_ra : List ℕ
del_ra = del_r ++ link

-- `.R` of user 1 names record 2, and record 0 is the file that it named
abbrev pub displaced : (old new : List ℕ) → List ℕ
displaced old new = old ++ ours 82 2 ++ new

-- two simple files of user 1, `.R` and `.W`, that so many entries name; `.G` names heading g
abbrev pub two_files : (one other g : ℕ) → List ℕ
two_files one other g = sheet_of 0 one ++ entry_r ++ sheet_of 1 other ++ ours 71 g ++ ours 87 2

-- `DST ` and what follows; `.R:A`
abbrev pub dst : List ℕ → List ℕ
dst names = 68 ∷ 83 ∷ 84 ∷ 32 ∷ names

abbrev pub dot_ra : List ℕ
dot_ra = dot_r ++ link

-- `.R` of user 1, its entry of this code, holds A, a simple file without text and of this code
abbrev pub holding_a : (entry heading : ℕ) → List ℕ
holding_a entry heading = box 1 1 ++ coded entry entry_r ++ limits heading 1 0 0 ++ within 0 65 2 0

-- an entry with this byte at a place; `.R` of user 1 holds one entry, of a simple file, and these are bytes 15-17 of its name
abbrev pub but : (place byte : ℕ) → List ℕ → List ℕ
but place byte entry = take place entry ++ byte ∷ drop (suc place) entry

abbrev pub bearing : (third second first : ℕ) → List ℕ
bearing third second first = box 1 1 ++ entry_r ++ sheet 0 ++ but 15 third (but 16 second (but 17 first (within 0 65 2 0)))

-- .. and its name is ten times `_`; the line of a name
abbrev pub longest : List ℕ
longest = box 1 1 ++ entry_r ++ sheet 0 ++ take 10 (within 0 65 2 0) ++ replicate 7 255 ++ 15 ∷ replicate 14 0

abbrev pub line_of : List ℕ → List ℕ
line_of name = 70 ∷ 77 ∷ 46 ∷ 85 ∷ 48 ∷ 32 ∷ 32 ∷ 32 ∷ 32 ∷ name ++ 13 ∷ 10 ∷ []

-- the file by three names in `.R`: B, AA and A
abbrev pub three : List ℕ
three = box 1 3 ++ entry_r ++ sheet_of 0 3 ++ within 0 66 2 0 ++ but 16 97 (within 0 65 2 0) ++ within 0 65 2 0

-- a table that is refused
abbrev pub unsound : List ℕ → Case
unsound table = asks table del_r [] [] 1 9 (answer 2 0 0 0 0 0 0) table []

-- places after the last entry
abbrev pub padding : ℕ → List ℕ
padding n = replicate n 65535

-- n free records
abbrev pub free : ℕ → List ℕ
free n = replicate (n * 32) 0

-- `.R` of user 1, that so many entries name; and, which no base file reaches, a directory that holds so many: this one, and A, which names a
-- second directory; that holds A, which names the first, and B, which names a file with a text
abbrev pub lost_of : (named holds : ℕ) (entry : List ℕ) → List ℕ
lost_of named holds entry =
    box named 0 ++ entry_r ++ box 1 holds ++ entry ++ box 1 2 ++ within 2 65 4 0 ++ within 4 65 2 0 ++ limits 0 1 0 1 ++ within 4 66 7 0
    ++ but 2 7 (written 0 65 1)

-- .. this one is B, which names the file of `.R`; and its index
abbrev pub lost : List ℕ
lost = lost_of 2 2 (within 2 66 0 0)

abbrev pub lost_index : List ℕ
lost_index = 5 ∷ 3 ∷ 6 ∷ 8 ∷ 1 ∷ padding 5

-- `.R` of user 1 holds A, which holds B
abbrev pub deep : List ℕ
deep = box 1 1 ++ entry_r ++ box 1 1 ++ within 0 65 2 0 ++ heading_r ++ within 2 66 4 0

-- `.R` of user 1 holds A, which holds `.R`; what its entries allow doesn't matter
abbrev pub ring : List ℕ
ring = box 2 1 ++ coded 7 entry_r ++ box 1 1 ++ within 0 65 2 7 ++ within 2 65 0 7

unfoldable pub cases : List Case
cases =
    -- "code 1 joined with 4 is 5; 2 with 6 is 6"
    joins 1 4 5
    ∷ joins 2 6 6
    -- "text of 0, 24 and 25 bytes takes 0, 1 and 2 text records. 24,000 takes 1,000; 24,001 gets 10"
    ∷ takes 0 0
    ∷ takes 24 1
    ∷ takes 25 2
    ∷ takes 24000 1000
    ∷ asks [] wrs_w (replicate 24000 65) [] 1 9 (answer 19 0 0 0 0 0 0) [] []
    ∷ asks [] wrs_w (replicate 24001 65) [] 1 9 (answer 10 0 0 0 0 0 0) [] []
    -- "`.R::A` and a name of 11 characters get 7; 10 is legal. `.1` gets 8"
    ∷ asks [] (rds (46 ∷ 82 ∷ 58 ∷ 58 ∷ 65 ∷ [])) [] [] 1 9 (answer 7 1 2 0 0 0 0) [] []
    ∷ asks [] (rds (replicate 11 65)) [] [] 1 9 (answer 7 1 2 0 0 0 0) [] []
    ∷ asks [] (rds (replicate 10 65)) [] [] 1 9 (answer 11 1 1 0 0 0 0) [] []
    ∷ asks [] (rds (46 ∷ 49 ∷ [])) [] [] 1 9 (answer 8 1 1 0 0 0 0) [] []
    -- "`F.0`, `DM.P1`, `.` are declarations; `MF` and `1` aren't"
    ∷ declares (70 ∷ 46 ∷ 48 ∷ []) true
    ∷ declares (68 ∷ 77 ∷ 46 ∷ 80 ∷ 49 ∷ []) true
    ∷ declares (46 ∷ []) true
    ∷ declares (77 ∷ 70 ∷ []) false
    ∷ declares (49 ∷ []) false
    -- "user 1, 64 zero bytes, `CRD .R`": heading, entry, and "after `CRD .R` record 0 has 1 in byte 12"
    ∷ asks pair crd_r [] [] 1 9 (answer 0 0 0 1 0 0 3) (heading_r ++ entry_r) []
    -- "With k = 1 only record 0, answer 22, and mending gives zeros again. With 32 bytes: 19." "A new heading starts with both at 0."
    ∷ asks pair crd_r [] [] 1 1 (answer 22 0 0 0 0 0 1) (box 0 0 ++ blank) []
    ∷ mends (box 0 0 ++ blank) 9 (answer 0 0 0 0 0 0 1) pair
    ∷ asks one crd_r [] [] 1 9 (answer 19 0 0 0 0 0 0) one []
    -- with k = 2 the entry stands and the count is untrue: "At its end mending corrects untrue counts, one store a heading"
    ∷ asks pair crd_r [] [] 1 2 (answer 22 0 0 0 0 0 2) (box 0 0 ++ entry_r) []
    ∷ mends (box 0 0 ++ entry_r) 9 (answer 0 0 0 0 0 0 1) (heading_r ++ entry_r)
    -- "then `CRD .R:A` gets 19; `DEL .R` gives zeros", and "takes 3 stores": the file about to be cleared gets its count too
    ∷ asks (heading_r ++ entry_r) crd_ra [] [] 1 9 (answer 19 0 0 0 0 0 0) (heading_r ++ entry_r) []
    ∷ asks (heading_r ++ entry_r) del_r [] [] 1 9 (answer 0 0 0 1 0 0 3) pair []
    ∷ asks (heading_r ++ entry_r) del_r [] [] 1 1 (answer 22 0 0 0 0 0 1) (heading_r ++ blank) []
    ∷ asks (heading_r ++ entry_r) del_r [] [] 1 2 (answer 22 0 0 0 0 0 2) (box 0 0 ++ blank) []
    -- document 02: "A new name `.nnnnnn:link` in DUP (six digits) enters the file in that user's `.G`"
    ∷ asks (shelf ++ blank) (dup dot_r (night ++ link)) [] [] 1 9 (answer 0 0 0 1 0 0 3) (given entry_r entry_a) []
    -- "in RDS and LST, `.nnnnnn` starts at that user's `.T`": a directory, here empty
    ∷ asks (heading_r ++ nights 84 0) (76 ∷ 83 ∷ 84 ∷ 32 ∷ night) [] [] 1 9 (answer 0 0 0 1 0 0 0) (heading_r ++ nights 84 0) []
    ∷ asks (heading_r ++ nights 84 0) (rds night) [] [] 1 9 (answer 15 1 1 0 0 0 0) (heading_r ++ nights 84 0) []
    -- "Codes join as always, so nobody receives more than the giver's entry has": 4, and 1 declared
    ∷ asks (lent ++ blank) (dup dot_r (night ++ link ++ 32 ∷ 46 ∷ 49 ∷ [])) [] [] 1 9 (answer 0 0 0 1 0 0 3) (given (coded 4 entry_r) (coded 5 entry_a)) []
    -- "16 where the link is taken"
    ∷ asks (given entry_r entry_a) (dup dot_r (night ++ link)) [] [] 1 9 (answer 16 2 2 0 0 0 0) (given entry_r entry_a) []
    -- "11 where `.G` or `.T` is missing": `.G` does not stand in for `.T`
    ∷ asks (heading_r ++ entry_r) (dup dot_r (night ++ link)) [] [] 1 9 (answer 11 2 1 0 0 0 0) (heading_r ++ entry_r) []
    ∷ asks (shelf ++ blank) (rds night) [] [] 1 9 (answer 11 1 1 0 0 0 0) (shelf ++ blank) []
    -- "so does a bare `.nnnnnn` as DUP's old name .. and a give with no link or more than one"; five digits are no user
    ∷ asks [] (dup night dot_r) [] [] 1 9 (answer 8 1 1 0 0 0 0) [] []
    ∷ asks [] (dup dot_r night) [] [] 1 9 (answer 8 2 1 0 0 0 0) [] []
    ∷ asks [] (dup dot_r (night ++ link ++ link)) [] [] 1 9 (answer 8 2 1 0 0 0 0) [] []
    ∷ asks [] (rds (take 6 night)) [] [] 1 9 (answer 8 1 1 0 0 0 0) [] []
    -- "In every other place it still gets 8"
    ∷ asks [] (67 ∷ 82 ∷ 68 ∷ 32 ∷ night ++ link) [] [] 1 9 (answer 8 1 1 0 0 0 0) [] []
    ∷ asks (desk ++ pair) (67 ∷ 80 ∷ 89 ∷ 32 ∷ dot_r ++ 32 ∷ night ++ link) [] [] 1 9 (answer 8 2 1 0 0 0 0) (desk ++ pair) []
    -- "With U lowest, then P, A, S, a copy's level must be at least its source's": A from P, A from A; P from A gets 25, and 19 before it
    ∷ asks (sheet 1 ++ entry_r ++ pair) (cpy_rg 65) [] [] 1 9 (answer 0 0 0 1 0 0 3) (sheet 1 ++ entry_r ++ sheet 2 ++ entry_g) []
    ∷ asks (sheet 2 ++ entry_r ++ pair) (cpy_rg 65) [] [] 1 9 (answer 0 0 0 1 0 0 3) (sheet 2 ++ entry_r ++ sheet 2 ++ entry_g) []
    ∷ asks (sheet 2 ++ entry_r ++ pair) (cpy_rg 80) [] [] 1 9 (answer 25 3 0 0 0 0 0) (sheet 2 ++ entry_r ++ pair) []
    ∷ asks (sheet 2 ++ entry_r) (cpy_rg 80) [] [] 1 9 (answer 19 0 0 0 0 0 0) (sheet 2 ++ entry_r) []
    -- "the link counted from 1 with the supplied `.W` as link 1. For 7 and 8 it is the first wrong name": `@`, `A:@`, past the sixteenth
    ∷ asks [] (rds (64 ∷ [])) [] [] 1 9 (answer 7 1 2 0 0 0 0) [] []
    ∷ asks [] (rds (65 ∷ 58 ∷ 64 ∷ [])) [] [] 1 9 (answer 7 1 3 0 0 0 0) [] []
    ∷ asks [] (rds (dot_r ++ links_a 16 ++ 58 ∷ [])) [] [] 1 9 (answer 7 1 18 0 0 0 0) [] []
    -- "0 for a lone dash, a chain only too long, any argument that is no chain"
    ∷ asks [] (rds (45 ∷ [])) [] [] 1 9 (answer 7 1 0 0 0 0 0) [] []
    ∷ asks [] (rds (dot_r ++ links_a 16)) [] [] 1 9 (answer 7 1 0 0 0 0 0) [] []
    ∷ asks [] (67 ∷ 72 ∷ 78 ∷ 32 ∷ dot_r ++ 32 ∷ 64 ∷ []) [] [] 1 9 (answer 7 2 0 0 0 0 0) [] []
    -- "in a walk the link refused": not there, no directory
    ∷ asks inside (rds (dot_r ++ 58 ∷ 66 ∷ link)) [] [] 1 9 (answer 11 1 2 0 0 0 0) inside []
    ∷ asks inside (rds (dot_r ++ links_a 3)) [] [] 1 9 (answer 12 1 2 0 0 0 0) inside []
    -- "in an end check the chain's last link"
    ∷ asks inside (76 ∷ 83 ∷ 84 ∷ 32 ∷ dot_r ++ link) [] [] 1 9 (answer 15 1 2 0 0 0 0) inside []
    -- document 02: "RDS name first count, both octal": ` 1 2`, ` 10`; a buffer exactly long enough, and one byte less
    ∷ reads lettered (32 ∷ 49 ∷ 32 ∷ 50 ∷ []) 2 0 0 (66 ∷ 67 ∷ [])
    ∷ reads lettered (32 ∷ 49 ∷ 32 ∷ 50 ∷ []) 1 20 0 []
    ∷ reads lettered (32 ∷ 49 ∷ 48 ∷ []) 9 0 0 (73 ∷ [])
    -- "a dash or nothing means 0 and to the end": ` - 2`, ` 7 -`, ` - -`, nothing
    ∷ reads lettered (32 ∷ 45 ∷ 32 ∷ 50 ∷ []) 9 0 0 (65 ∷ 66 ∷ [])
    ∷ reads lettered (32 ∷ 55 ∷ 32 ∷ 45 ∷ []) 9 0 0 (72 ∷ 73 ∷ [])
    ∷ reads lettered (32 ∷ 45 ∷ 32 ∷ 45 ∷ []) 9 0 0 (65 ∷ 66 ∷ 67 ∷ 68 ∷ 69 ∷ 70 ∷ 71 ∷ 72 ∷ 73 ∷ [])
    ∷ reads lettered [] 9 0 0 (65 ∷ 66 ∷ 67 ∷ 68 ∷ 69 ∷ 70 ∷ 71 ∷ 72 ∷ 73 ∷ [])
    -- "First beyond the length is refused; first equal to it gives no bytes; a count past the end gives what there is": ` 12`, ` 11 1`, ` 7 7`
    ∷ reads lettered (32 ∷ 49 ∷ 50 ∷ []) 9 28 2 []
    ∷ reads lettered (32 ∷ 49 ∷ 49 ∷ 32 ∷ 49 ∷ []) 9 0 0 []
    ∷ reads lettered (32 ∷ 55 ∷ 32 ∷ 55 ∷ []) 9 0 0 (72 ∷ 73 ∷ [])
    -- an empty file: ` 0`, ` 1`
    ∷ reads (sheet 0 ++ entry_r) (32 ∷ 48 ∷ []) 0 0 0 []
    ∷ reads (sheet 0 ++ entry_r) (32 ∷ 49 ∷ []) 0 28 2 []
    -- "A count of 0 is refused": ` - 00`; ` 8 0`, ` 1:2`, and seven digits, are no numbers; six are
    ∷ reads lettered (32 ∷ 45 ∷ 32 ∷ 48 ∷ 48 ∷ []) 9 27 3 []
    ∷ reads lettered (32 ∷ 56 ∷ 32 ∷ 48 ∷ []) 9 27 2 []
    ∷ reads lettered (32 ∷ 49 ∷ 58 ∷ 50 ∷ []) 9 27 2 []
    ∷ reads lettered (32 ∷ replicate 7 48) 9 27 2 []
    ∷ reads lettered (32 ∷ replicate 5 48 ++ 55 ∷ []) 9 0 0 (72 ∷ 73 ∷ [])
    -- "`LST*` name digit lists a directory and, under each entry that is a readable directory, its entries": F under D, two blanks more
    -- in front, its own code and not that of D joined with it; the byte after them as it was
    ∷ asks (branches 4) (lst_star dot_r 50) [] (replicate 39 7) 1 9 (answer 0 0 0 1 0 38 0) (branches 4) (line_d 52 ++ 32 ∷ 32 ∷ line_f ++ line_e ++ 7 ∷ [])
    -- "Depth 1 equals LST"
    ∷ asks (branches 4) (lst_star dot_r 49) [] (replicate 24 7) 1 9 (answer 0 0 0 1 0 24 0) (branches 4) (line_d 52 ++ line_e)
    -- "Read-inhibited directories show their own line only."
    ∷ asks (branches 2) (lst_star dot_r 56) [] (replicate 24 7) 1 9 (answer 0 0 0 1 0 24 0) (branches 2) (line_d 50 ++ line_e)
    -- "20 for a short buffer": "The needed length is judged before anything is written."
    ∷ asks (branches 4) (lst_star dot_r 50) [] (replicate 37 7) 1 9 (answer 20 0 0 0 0 0 0) (branches 4) (replicate 37 7)
    -- "so loops end"
    ∷ asks loop (lst_star dot_r 51) [] (replicate 42 7) 1 9 (answer 0 0 0 1 0 42 0) loop
    (line_d 48 ++ 32 ∷ 32 ∷ line_d 48 ++ 32 ∷ 32 ∷ 32 ∷ 32 ∷ line_d 48)
    -- "a lone point and request g's `.nnnnnn` included"
    ∷ asks (box 2 1 ++ nights 84 0 ++ within 0 68 0 0) (lst_star night 49) [] (replicate 12 7) 1 9 (answer 0 0 0 1 0 12 0)
    (box 2 1 ++ nights 84 0 ++ within 0 68 0 0) (line_d 48)
    ∷ asks loop (lst_star (46 ∷ []) 50) [] (replicate 27 7) 1 9 (answer 0 0 0 1 0 27 0) loop
    (68 ∷ 77 ∷ 46 ∷ 85 ∷ 48 ∷ 32 ∷ 32 ∷ 32 ∷ 32 ∷ 46 ∷ 82 ∷ 13 ∷ 10 ∷ 32 ∷ 32 ∷ line_d 48)
    -- "9 for another digit"; 8 before it
    ∷ asks [] (lst_star dot_r 48) [] [] 1 9 (answer 9 2 0 0 0 0 0) [] []
    ∷ asks [] (lst_star dot_r 57) [] [] 1 9 (answer 9 2 0 0 0 0 0) [] []
    ∷ asks [] (lst_star (46 ∷ 49 ∷ []) 57) [] [] 1 9 (answer 8 1 1 0 0 0 0) [] []
    -- "`WRS*` decl name, with a text, rewrites an existing simple file of lifetime M": 2 stores, 1 for the old text and 2 for the new,
    -- "new text into the lowest records then free", which are the old text's and the one after it
    ∷ rewrites old_limits 5 0 1 5 new_limits
    -- "19 by the room above": 49 bytes take three records, and so where the file is long
    ∷ asks old_limits (wrs_star (77 ∷ [])) (replicate 49 66) [] 1 9 (answer 19 0 0 0 0 0 0) old_limits []
    ∷ asks (limits 0 2 0 0 ++ entry_r) (wrs_star (77 ∷ [])) (66 ∷ []) [] 1 9 (answer 19 0 0 0 0 0 0) (limits 0 2 0 0 ++ entry_r) []
    -- store by store: "the heading marked (byte 5 is 1) with length 0, old text cleared by position, new text .., heading unmarked"
    ∷ rewrites old_limits 1 22 0 1 (half (written 0 65 1) blank)
    ∷ rewrites old_limits 2 22 0 2 (half blank blank)
    ∷ rewrites old_limits 3 22 0 3 (half (written 0 66 24) blank)
    ∷ rewrites old_limits 4 22 0 4 (half (written 0 66 24) (written 1 66 1))
    -- "Mending a marked file clears its text and leaves the mark"
    ∷ mends (half (written 0 65 1) blank) 9 (answer 0 0 0 0 0 0 1) (half blank blank)
    ∷ mends (half blank blank) 9 (answer 0 0 0 0 0 0 0) (half blank blank)
    ∷ mends (half (written 0 66 24) (written 1 66 1)) 9 (answer 0 0 0 0 0 0 2) (half blank blank)
    -- "RDS and CPY refuse it, and a second rewrite repairs it"; "23 .. after 21": 19 before it
    ∷ asks (half blank blank) (rds dot_r) [] [] 1 9 (answer 23 1 1 0 0 0 0) (half blank blank) []
    ∷ asks (half blank blank) cpy_to_g [] [] 1 9 (answer 23 1 1 0 0 0 0) (half blank blank) []
    ∷ asks (limits 0 1 1 0 ++ entry_r) cpy_to_g [] [] 1 9 (answer 19 0 0 0 0 0 0) (limits 0 1 1 0 ++ entry_r) []
    ∷ rewrites (half blank blank) 4 0 1 4 new_limits
    -- 0 bytes onto 0
    ∷ asks (limits 0 1 0 0 ++ entry_r) (wrs_star (77 ∷ 46 ∷ [])) [] [] 1 9 (answer 0 0 0 1 0 0 2) (limits 0 1 0 0 ++ entry_r) []
    -- "same heading": another store of it keeps the mark
    ∷ asks (half blank blank) dpr_r [] [] 1 9 (answer 0 0 0 1 0 0 1) (limits 1 1 1 0 ++ entry_r ++ pair) []
    -- "It needs write on the file", "15 for a directory", "24 lifetime L"; "the declaration may be only M": `L`, `M.0`, `-`
    ∷ asks (limits 1 1 0 0 ++ entry_r) (wrs_star (77 ∷ [])) [] [] 1 9 (answer 14 2 1 0 0 0 0) (limits 1 1 0 0 ++ entry_r) []
    ∷ asks (heading_r ++ entry_r) (wrs_star (77 ∷ [])) [] [] 1 9 (answer 15 2 1 0 0 0 0) (heading_r ++ entry_r) []
    ∷ asks (limits 0 2 0 0 ++ entry_r) (wrs_star (77 ∷ [])) [] [] 1 9 (answer 24 2 1 0 0 0 0) (limits 0 2 0 0 ++ entry_r) []
    ∷ asks [] (wrs_star (76 ∷ [])) [] [] 1 9 (answer 9 1 0 0 0 0 0) [] []
    ∷ asks [] (wrs_star (77 ∷ 46 ∷ 48 ∷ [])) [] [] 1 9 (answer 9 1 0 0 0 0 0) [] []
    ∷ asks [] (wrs_star (45 ∷ [])) [] [] 1 9 (answer 9 1 0 0 0 0 0) [] []
    -- "11 for a name not there"; a text of 24,001 bytes
    ∷ asks [] (wrs_star (77 ∷ [])) (replicate 24000 66) [] 1 9 (answer 11 2 1 0 0 0 0) [] []
    ∷ asks [] (wrs_star (77 ∷ [])) (replicate 24001 66) [] 1 9 (answer 10 0 0 0 0 0 0) [] []
    -- "A marked file, simple, M, length 0, is sound": not a long one, not a directory
    ∷ unsound (limits 0 2 1 0 ++ entry_r)
    ∷ unsound (1 ∷ 0 ∷ drop 2 (limits 0 1 1 0) ++ entry_r)
    ∷ unsound (limits 0 1 2 0 ++ entry_r)
    ∷ asks (limits 0 1 1 0 ++ entry_r) del_r [] [] 1 9 (answer 0 0 0 1 0 0 3) pair []
    -- "(the file named, the file displaced, the holder), one store each, by record number, after that entry store": the holder's count, and
    -- then that of the new file
    ∷ asks (heading_r ++ entry_r ++ pair) crd_ra [] [] 1 9 (answer 0 0 0 1 0 0 4) (box 1 1 ++ entry_r ++ heading_r ++ within 0 65 2 0) []
    ∷ asks (heading_r ++ entry_r ++ pair) crd_ra [] [] 1 3 (answer 22 0 0 0 0 0 3) (box 1 1 ++ entry_r ++ box 0 0 ++ within 0 65 2 0) []
    -- ".. and before any clearing": the holder's, the file's, and then the file is cleared; the next name finds the holder empty
    ∷ asks inside del_ra [] [] 1 9 (answer 0 0 0 1 0 0 4) (heading_r ++ entry_r ++ pair) []
    ∷ asks inside del_ra [] [] 1 2 (answer 22 0 0 0 0 0 2) (heading_r ++ entry_r ++ sheet 0 ++ blank) []
    ∷ asks inside del_ra [] [] 1 3 (answer 22 0 0 0 0 0 3) (heading_r ++ entry_r ++ sheet_of 0 0 ++ blank) []
    ∷ asks inside (del_ra ++ 32 ∷ dot_r) [] [] 1 9 (answer 0 0 0 2 0 0 7) (pair ++ pair) []
    -- the file displaced, about to be cleared: heading, entry, two counts, and the clearing; a cut before the counts is mended
    ∷ asks (sheet 0 ++ entry_r ++ blank) crd_r [] [] 1 9 (answer 0 0 0 1 1 0 5) (displaced blank heading_r) []
    ∷ asks (sheet 0 ++ entry_r ++ blank) crd_r [] [] 1 2 (answer 22 0 0 0 0 0 2) (displaced (sheet 0) (box 0 0)) []
    ∷ asks (sheet 0 ++ entry_r ++ blank) crd_r [] [] 1 3 (answer 22 0 0 0 0 0 3) (displaced (sheet_of 0 0) (box 0 0)) []
    ∷ asks (sheet 0 ++ entry_r ++ blank) crd_r [] [] 1 4 (answer 22 0 0 0 0 0 4) (displaced (sheet_of 0 0) heading_r) []
    ∷ mends (displaced (sheet 0) (box 0 0)) 9 (answer 0 0 0 0 0 0 2) (displaced blank heading_r)
    ∷ mends (displaced (sheet 0) (box 0 0)) 1 (answer 22 0 0 0 0 0 1) (displaced blank (box 0 0))
    -- .. and displaced where another entry names it: `DUP .R .G`
    ∷ asks (two_files 1 2 2) (dup dot_r (46 ∷ 71 ∷ [])) [] [] 1 9 (answer 0 0 0 1 1 0 3) (two_files 2 1 0) []
    -- "counts still true get no store": `DUP .R:A .R:A .1`, `CHN .R .G`
    ∷ asks inside (dup (dot_r ++ link) (dot_r ++ link ++ 32 ∷ 46 ∷ 49 ∷ [])) [] [] 1 9 (answer 0 0 0 1 1 0 1)
    (box 1 1 ++ entry_r ++ sheet 0 ++ within 0 65 2 1) []
    ∷ asks (heading_r ++ entry_r) chn_rg [] [] 1 9 (answer 0 0 0 1 0 0 1) (heading_r ++ ours 71 0) []
    -- "one store each": a directory in itself, `DUP .R .R:D` and `DEL .R:D`
    ∷ asks (heading_r ++ entry_r ++ blank) (dup dot_r (dot_r ++ 58 ∷ 68 ∷ [])) [] [] 1 9 (answer 0 0 0 1 0 0 2) loop []
    ∷ asks loop (del_r ++ 58 ∷ 68 ∷ []) [] [] 1 9 (answer 0 0 0 1 0 0 2) (heading_r ++ entry_r ++ blank) []
    -- "Soundness says that both are true": bytes 12-13, the second of them too, and bytes 14-15; a table of document 01 has neither
    ∷ unsound (box 2 0 ++ entry_r)
    ∷ unsound (take 13 heading_r ++ 1 ∷ drop 14 heading_r ++ entry_r)
    ∷ unsound (box 1 1 ++ entry_r)
    ∷ unsound (branches_of (box 0 0) (box 0 0) (sheet_of 1 0) 4)
    -- "mending corrects untrue counts, one store a heading, by record number"
    ∷ mends (box 2 0 ++ entry_r) 9 (answer 0 0 0 0 0 0 1) (heading_r ++ entry_r)
    ∷ mends (box 1 1 ++ entry_r) 9 (answer 0 0 0 0 0 0 1) (heading_r ++ entry_r)
    ∷ mends (branches_of (box 0 0) (box 0 0) (sheet_of 1 0) 4) 9 (answer 0 0 0 0 0 0 3) (branches 4)
    ∷ mends (branches_of (box 0 0) (box 0 0) (sheet_of 1 0) 4) 2 (answer 22 0 0 0 0 0 2) (branches_of (box 1 2) (box 1 1) (sheet_of 1 0) 4)
    ∷ mends (branches 4) 9 (answer 0 0 0 0 0 0 0) (branches 4)
    -- "for a directory": a simple file's bytes 14-15 are zero, and mending leaves them
    ∷ unsound (take 14 (sheet 0) ++ 1 ∷ drop 15 (sheet 0) ++ entry_r)
    ∷ mends (take 14 (sheet 0) ++ 1 ∷ drop 15 (sheet 0) ++ entry_r) 9 (answer 2 0 0 0 0 0 0) (take 14 (sheet 0) ++ 1 ∷ drop 15 (sheet 0) ++ entry_r)
    -- document 02, `DST`: "heading cleared, text by position, then every entry naming it"; a base list has no counts
    ∷ asks lettered (dst dot_r) [] [] 1 9 (answer 0 0 0 1 0 0 3) (pair ++ blank) []
    ∷ asks lettered (dst dot_r) [] [] 1 1 (answer 22 0 0 0 0 0 1) (blank ++ drop 32 lettered) []
    ∷ asks lettered (dst dot_r) [] [] 1 2 (answer 22 0 0 0 0 0 2) (pair ++ entry_r) []
    -- "by record number, then the holders' counts": E by two paths in two directories; a cut is mended to the table after
    ∷ asks (branches 4) (dst (dot_r ++ 58 ∷ 69 ∷ [])) [] [] 1 9 (answer 0 0 0 1 0 0 5)
    (box 1 1 ++ entry_r ++ heading_r ++ within 0 68 2 4 ++ blank ++ pair) []
    ∷ asks (branches 4) (dst (dot_r ++ 58 ∷ 69 ∷ [])) [] [] 1 4 (answer 22 0 0 0 0 0 4)
    (box 1 1 ++ entry_r ++ box 1 1 ++ within 0 68 2 4 ++ blank ++ pair) []
    ∷ asks (branches 4) (dst (dot_r ++ 58 ∷ 69 ∷ [])) [] [] 1 2 (answer 22 0 0 0 0 0 2)
    (box 1 2 ++ entry_r ++ box 1 1 ++ within 0 68 2 4 ++ pair ++ within 2 70 4 1) []
    ∷ mends (box 1 2 ++ entry_r ++ box 1 1 ++ within 0 68 2 4 ++ pair ++ within 2 70 4 1) 9 (answer 0 0 0 0 0 0 3)
    (box 1 1 ++ entry_r ++ heading_r ++ within 0 68 2 4 ++ blank ++ pair)
    -- .. "every path must go": that of user 777 too
    ∷ asks (given entry_r entry_a) (dst dot_r) [] [] 1 9 (answer 0 0 0 1 0 0 4) (pair ++ heading_r ++ nights 71 2 ++ blank) []
    -- "needs write on each file": by the heading's code, and by the code of the entry followed; "and asks nothing of the directories"
    ∷ asks (holding_a 0 1) (dst dot_ra) [] [] 1 9 (answer 14 1 2 0 0 0 0) (holding_a 0 1) []
    ∷ asks (branches 4) (dst (dot_r ++ 58 ∷ 68 ∷ 58 ∷ 70 ∷ [])) [] [] 1 9 (answer 14 1 3 0 0 0 0) (branches 4) []
    ∷ asks (holding_a 1 0) del_ra [] [] 1 9 (answer 14 1 2 0 0 0 0) (holding_a 1 0) []
    ∷ asks (holding_a 1 0) (dst dot_ra) [] [] 1 9 (answer 0 0 0 1 0 0 3) (heading_r ++ coded 1 entry_r ++ pair) []
    -- "18 for a directory with entries, its own self-entry included"; an empty one goes; 14 before it
    ∷ asks inside (dst dot_r) [] [] 1 9 (answer 18 1 1 0 0 0 0) inside []
    ∷ asks loop (dst dot_r) [] [] 1 9 (answer 18 1 1 0 0 0 0) loop []
    ∷ asks (heading_r ++ entry_r) (dst dot_r) [] [] 1 9 (answer 0 0 0 1 0 0 2) pair []
    ∷ asks (holding_a 1 0) (dst dot_r) [] [] 1 9 (answer 14 1 1 0 0 0 0) (holding_a 1 0) []
    -- "`DST` takes 1 to 8 names": `DST .R:A .R:A` gets 11 at its second name, with one name done; `DST .R:A .R` destroys both
    ∷ asks inside (dst (dot_ra ++ 32 ∷ dot_ra)) [] [] 1 9 (answer 11 2 2 1 0 0 3) (heading_r ++ entry_r ++ pair) []
    ∷ asks inside (dst (dot_ra ++ 32 ∷ dot_r)) [] [] 1 9 (answer 0 0 0 2 0 0 5) (pair ++ pair) []
    ∷ asks inside (dst (dot_ra ++ 32 ∷ dot_ra)) [] [] 1 2 (answer 22 0 0 0 0 0 2) (box 1 1 ++ entry_r ++ pair) []
    ∷ asks [] (take 3 (dst [])) [] [] 1 9 (answer 6 0 0 0 0 0 0) [] []
    -- "otherwise as DEL": 11, 12; request g: "In every other place it still gets 8"
    ∷ asks inside (dst (dot_r ++ 58 ∷ 66 ∷ [])) [] [] 1 9 (answer 11 1 2 0 0 0 0) inside []
    ∷ asks inside (dst (dot_ra ++ link)) [] [] 1 9 (answer 12 1 2 0 0 0 0) inside []
    ∷ asks [] (dst (night ++ link)) [] [] 1 9 (answer 8 1 1 0 0 0 0) [] []
    -- "Mending now first clears entries that name no heading": here itself; and then a heading that the entry did not name, and its text
    ∷ mends entry_r 9 (answer 0 0 0 0 0 0 1) blank
    ∷ mends (drop 32 lettered) 9 (answer 0 0 0 0 0 0 2) pair
    ∷ mends (ours 82 3 ++ drop 32 (take 64 lettered) ++ sheet 0) 9 (answer 0 0 0 0 0 0 3) (pair ++ blank)
    ∷ mends (ours 82 3 ++ drop 32 (take 64 lettered) ++ sheet 0) 1 (answer 22 0 0 0 0 0 1) (blank ++ drop 32 (take 64 lettered) ++ sheet 0)
    -- document 02, six-bit names: "one 60-bit number", all of it; "first character highest": `DUP .R:A .R:__________` and its line
    ∷ asks (inside ++ blank) (dup dot_ra (dot_r ++ 58 ∷ replicate 10 95)) [] [] 1 9 (answer 0 0 0 1 0 0 3)
    (box 1 2 ++ entry_r ++ sheet_of 0 2 ++ within 0 65 2 0 ++ drop 96 longest) []
    ∷ asks longest (76 ∷ 83 ∷ 84 ∷ 32 ∷ dot_r) [] (replicate 21 7) 1 9 (answer 0 0 0 1 0 21 0) longest (line_of (replicate 10 95))
    -- "Number order is then listing order."
    ∷ asks three (76 ∷ 83 ∷ 84 ∷ 32 ∷ dot_r) [] (replicate 37 7) 1 9 (answer 0 0 0 1 0 37 0) three
    (line_of (65 ∷ []) ++ line_of (65 ∷ 65 ∷ []) ++ line_of (66 ∷ []))
    -- .. and not a bit more; "byte 9 and 18-19 become zero", as those after them are
    ∷ unsound (heading_r ++ but 17 19 entry_r)
    ∷ unsound (heading_r ++ but 9 1 entry_r)
    ∷ unsound (heading_r ++ but 18 1 entry_r)
    ∷ unsound (heading_r ++ but 19 1 entry_r)
    ∷ unsound (heading_r ++ but 31 1 entry_r)
    -- "blank padding 0": `A`, and the blank in `A A`, the first of ` A`, `A:`, `A@`, no name at all
    ∷ asks (bearing 0 64 8) del_ra [] [] 1 9 (answer 0 0 0 1 0 0 4) (heading_r ++ entry_r ++ pair) []
    ∷ unsound (bearing 132 64 8)
    ∷ unsound (bearing 0 33 0)
    ∷ unsound (bearing 0 90 8)
    ∷ unsound (bearing 0 96 8)
    ∷ unsound (bearing 0 0 0)
    -- a table of document 01, a name length in byte 9 and the name after it
    ∷ unsound (heading_r ++ take 9 entry_r ++ 2 ∷ 46 ∷ 82 ∷ replicate 20 0)
    -- document 02: "ordered by directory, then user, then name"; "places after the last entry hold 65,535": A of record 2 before the base files
    -- of user 1 and user 777; A, AA and B of record 0 before `.R`; and, which no sound table has, users in two directories
    ∷ orders (replicate 96 0) (padding 3)
    ∷ orders (given entry_r entry_a) (4 ∷ 1 ∷ 3 ∷ padding 2)
    ∷ orders three (5 ∷ 4 ∷ 3 ∷ 1 ∷ padding 2)
    ∷ orders (within 1 65 0 0 ++ but 6 9 (within 0 65 0 0)) (1 ∷ 0 ∷ [])
    -- "a halving search that takes the lower middle and stops at equal": of four entries the second is looked at first
    ∷ looks three (5 ∷ 4 ∷ 3 ∷ 1 ∷ padding 2) (in_directory 0) (65 ∷ 65 ∷ []) true 4 1
    ∷ looks three (5 ∷ 4 ∷ 3 ∷ 1 ∷ padding 2) (in_directory 0) (65 ∷ []) true 5 2
    ∷ looks three (5 ∷ 4 ∷ 3 ∷ 1 ∷ padding 2) (in_directory 0) (66 ∷ []) true 3 2
    ∷ looks three (5 ∷ 4 ∷ 3 ∷ 1 ∷ padding 2) (base_list 1) dot_r true 1 3
    -- not there: a name between two, another user's; with a directory the user is not looked at; a name that no entry can bear; no list
    ∷ looks three (5 ∷ 4 ∷ 3 ∷ 1 ∷ padding 2) (in_directory 0) (67 ∷ []) false 65535 3
    ∷ looks three (5 ∷ 4 ∷ 3 ∷ 1 ∷ padding 2) (base_list 2) dot_r false 65535 3
    ∷ looks three (5 ∷ 4 ∷ 3 ∷ 1 ∷ padding 2) (record { heading = 0; user = 9 }) (65 ∷ []) true 5 2
    ∷ looks three (5 ∷ 4 ∷ 3 ∷ 1 ∷ padding 2) (in_directory 0) (97 ∷ []) false 65535 0
    ∷ looks three [] (in_directory 0) (65 ∷ []) false 65535 0
    -- "Every request keeps the index true"
    ∷ keeps pair (padding 2) crd_r 1 9 0 (heading_r ++ entry_r) (1 ∷ padding 1)
    ∷ keeps (shelf ++ blank) (1 ∷ 3 ∷ padding 3) (dup dot_r (night ++ link)) 1 9 0 (given entry_r entry_a) (4 ∷ 1 ∷ 3 ∷ padding 2)
    -- ".. a delete refused midway included": `DEL .R .W`
    ∷ keeps (heading_r ++ entry_r) (1 ∷ padding 1) (del_r ++ 32 ∷ 46 ∷ 87 ∷ []) 1 9 11 pair (padding 2)
    -- "26, exactly when the list's length or content differs from this": order, padding, length
    ∷ keeps shelf (3 ∷ 1 ∷ padding 2) del_r 1 9 26 shelf (3 ∷ 1 ∷ padding 2)
    ∷ keeps shelf (1 ∷ 3 ∷ 65535 ∷ 0 ∷ []) del_r 1 9 26 shelf (1 ∷ 3 ∷ 65535 ∷ 0 ∷ [])
    ∷ keeps shelf (1 ∷ 3 ∷ padding 1) del_r 1 9 26 shelf (1 ∷ 3 ∷ padding 1)
    -- "straight after 2": before 3
    ∷ keeps shelf (padding 4) del_r 1000000 9 26 shelf (padding 4)
    ∷ keeps shelf (1 ∷ 3 ∷ padding 2) del_r 1000000 9 3 shelf (1 ∷ 3 ∷ padding 2)
    ∷ keeps (heading_r ++ blank) (1 ∷ []) del_r 1 9 2 (heading_r ++ blank) (1 ∷ [])
    -- "A run that answers 22 leaves the index as it was lent, and the mend that follows builds it afresh."
    ∷ keeps pair (padding 2) crd_r 1 2 22 (box 0 0 ++ entry_r) (padding 2)
    ∷ mends_kept (box 0 0 ++ entry_r) (padding 2) 9 0 (heading_r ++ entry_r) (1 ∷ padding 1)
    ∷ mends_kept (box 0 0 ++ entry_r) (padding 2) 0 22 (box 0 0 ++ entry_r) (padding 2)
    -- "mending judges only the length", after 2
    ∷ mends_kept shelf (7 ∷ 7 ∷ 7 ∷ 7 ∷ []) 9 0 shelf (1 ∷ 3 ∷ padding 2)
    ∷ mends_kept shelf (1 ∷ 3 ∷ padding 1) 9 26 shelf (1 ∷ 3 ∷ padding 1)
    ∷ mends_kept (heading_r ++ heading_r ++ but 19 1 entry_r) [] 9 2 (heading_r ++ heading_r ++ but 19 1 entry_r) []
    -- document 02: "Mending's first step now also clears entries, base files' apart, whose directory is no heading": no heading of any type
    ∷ mends (box 2 0 ++ entry_r ++ blank ++ within 2 65 0 0) 9 (answer 0 0 0 0 0 0 2) (heading_r ++ entry_r ++ pair)
    ∷ mends (sheet_of 0 2 ++ entry_r ++ within 0 65 0 0) 9 (answer 2 0 0 0 0 0 0) (sheet_of 0 2 ++ entry_r ++ within 0 65 0 0)
    -- "mending repeats until nothing changes": the entry of `.R` is lost, and its tree goes in three rounds
    ∷ mends (take 32 (branches 4) ++ blank ++ drop 64 (branches 4)) 9 (answer 0 0 0 0 0 0 6) (free 7)
    ∷ mends (take 32 (branches 4) ++ blank ++ drop 64 (branches 4)) 4 (answer 22 0 0 0 0 0 4) (free 4 ++ sheet_of 1 2 ++ blank ++ within 2 70 4 1)
    -- "counts last": here those of `.R`, when three rounds have cleared what was left of a cut sweep
    ∷ mends (take 160 (lost_of 2 2 blank) ++ blank ++ drop 192 lost) 9 (answer 0 0 0 0 0 0 7) (heading_r ++ entry_r ++ free 8)
    ∷ mends (take 160 (lost_of 2 2 blank) ++ blank ++ drop 192 lost) 6 (answer 22 0 0 0 0 0 6) (box 2 0 ++ entry_r ++ free 8)
    -- "A sweep clears exactly what no chain of entries from any user's base files reaches": "entries, then headings, then text, each by record
    -- number, then corrects counts"; "Granted, it leaves the index true"
    ∷ sweeps lost lost_index 9 (answer 0 0 0 0 0 0 9) (heading_r ++ entry_r ++ free 8) (1 ∷ padding 9)
    ∷ sweeps lost lost_index 8 (answer 22 0 0 0 0 0 8) (box 2 0 ++ entry_r ++ free 8) lost_index
    ∷ sweeps lost lost_index 7 (answer 22 0 0 0 0 0 7) (box 2 0 ++ entry_r ++ free 7 ++ drop 288 lost) lost_index
    ∷ sweeps lost lost_index 5 (answer 22 0 0 0 0 0 5) (box 2 0 ++ entry_r ++ free 2 ++ box 1 2 ++ free 2 ++ limits 0 1 0 1 ++ blank ++ drop 288 lost) lost_index
    -- "A sweep cut anywhere, mended and swept again ends in the same table as one uncut"
    ∷ sweeps lost lost_index 1 (answer 22 0 0 0 0 0 1) (lost_of 2 2 blank) lost_index
    ∷ mends_kept (lost_of 2 2 blank) lost_index 9 0 (lost_of 1 1 blank) (5 ∷ 6 ∷ 8 ∷ 1 ∷ padding 6)
    ∷ sweeps (lost_of 1 1 blank) (5 ∷ 6 ∷ 8 ∷ 1 ∷ padding 6) 9 (answer 0 0 0 0 0 0 7) (heading_r ++ entry_r ++ free 8) (1 ∷ padding 9)
    -- nothing to do: a swept table; a loop that a base file reaches, "whatever the codes on it"; a file three links down; another user's
    ∷ sweeps (heading_r ++ entry_r ++ free 8) (1 ∷ padding 9) 0 (answer 0 0 0 0 0 0 0) (heading_r ++ entry_r ++ free 8) (1 ∷ padding 9)
    ∷ sweeps ring (3 ∷ 4 ∷ 1 ∷ padding 2) 9 (answer 0 0 0 0 0 0 0) ring (3 ∷ 4 ∷ 1 ∷ padding 2)
    ∷ sweeps deep (3 ∷ 5 ∷ 1 ∷ padding 3) 9 (answer 0 0 0 0 0 0 0) deep (3 ∷ 5 ∷ 1 ∷ padding 3)
    ∷ sweeps shelf (1 ∷ 3 ∷ padding 2) 9 (answer 0 0 0 0 0 0 0) shelf (1 ∷ 3 ∷ padding 2)
    -- "Refusals: 1, 2 and 26 as for a request"
    ∷ sweeps (0 ∷ []) [] 9 (answer 1 0 0 0 0 0 0) (0 ∷ []) []
    ∷ sweeps (lost_of 2 2 blank) [] 9 (answer 2 0 0 0 0 0 0) (lost_of 2 2 blank) []
    ∷ sweeps lost (3 ∷ 5 ∷ 6 ∷ 8 ∷ 1 ∷ padding 5) 9 (answer 26 0 0 0 0 0 0) lost (3 ∷ 5 ∷ 6 ∷ 8 ∷ 1 ∷ padding 5)
    ∷ []
