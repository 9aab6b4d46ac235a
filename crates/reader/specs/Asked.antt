-- The request, the refusal and the answer of the reader, for the paper's. A name stands by the place where its word starts.
use Rattle.std.specs.Prelude.{Bool, true, false, cond, List, [], ◌∷◌, ℕ, leb, length, Option, Some, None, Result, Ok, Err}
use Rattle.paper.specs.Line.{Word}
use Rattle.paper.specs.Name.{alone}
use Rattle.paper.specs.Check as paper
use Rattle.paper.specs.Check.{whole, at_link, refusal_at, Check, passed, refused}
use Rattle.paper.specs.Request.{malformed, illegal, illegal_but, is_take, is_take_within, is_give, miscounted, read_crd, read_wrs, read_rds, read_lst, read_cpy, read_dup, read_chn, read_dpr, read_names, crd, wrs, rds, cpy, dup, chn, del, dst, dpr, lst, lst_base, lst_tree, lst_base_tree, rewrite, request, unread, after, needed, old_from, depth_given, read_tree, read_rewrite}
use Rattle.paper.specs.Request as asked
use Rattle.records.specs.Part.{shown_part}
use Rattle.words.specs.Shown.{begin_shown}
use Rattle.words.specs.declared.octal.NoNumber.{NoNumber}
use Rattle.answers.specs.Number.{number_of}
use Rattle.reader.specs.declared.function.Function.{Function}
use Rattle.reader.specs.declared.function.Function.TheVariants as function
use Rattle.reader.specs.declared.request.Request.{Request}
use Rattle.reader.specs.declared.request.Request.TheVariants.{Crd, Wrs, Rds, Cpy, Dup, Chn, Del, Dst, Dpr, Lst, LstBase, LstTree, LstBaseTree, Rewrite}
use Rattle.reader.specs.declared.request.Refusal.{Refusal}
use Rattle.reader.specs.declared.request.Fault.{Fault}
use Rattle.reader.specs.declared.request.Fault.TheVariants as faults

-- where the first of some words starts
abbrev pub first_start : List Word → ℕ
first_start [] = 0
first_start (w ∷ ws) = w.start

-- a line for each of the functions, and LST of a lone point
abbrev pub shown_request : asked.Request → Request
shown_request (crd w v d) = Crd w.start (shown_part v) (shown_part d)
shown_request (wrs f v d w) = Wrs f (shown_part v) (shown_part d) w.start
shown_request (rds b w f n) = Rds (begin_shown b) w.start (shown_part f) (shown_part n)
shown_request (cpy b o n f v d) = Cpy (begin_shown b) o.start n.start (shown_part f) (shown_part v) (shown_part d)
shown_request (dup b o e n d) = Dup (begin_shown b) o.start (begin_shown e) n.start (shown_part d)
shown_request (chn o l) = Chn o.start l.start
shown_request (del ws) = Del (first_start ws) (length ws)
shown_request (dst ws) = Dst (first_start ws) (length ws)
shown_request (dpr w d) = Dpr w.start d
shown_request (lst b w) = Lst (begin_shown b) w.start
shown_request lst_base = LstBase
shown_request (lst_tree b w d) = LstTree (begin_shown b) w.start d
shown_request (lst_base_tree d) = LstBaseTree d
shown_request (rewrite w) = Rewrite w.start

-- the paper's refusal that a refusal here is, and what came of a call with it in its place
abbrev pub refusal_meant : Refusal → paper.Refusal
refusal_meant f = refusal_at (number_of f.number) (at_link f.place f.link)

abbrev pub told : {T : Type 0} → Result T Refusal → Result T paper.Refusal
told (Ok x) = Ok x
told (Err f) = Err (refusal_meant f)

abbrev pub shown_verdict : paper.Verdict → Result Unit paper.Refusal
shown_verdict passed = Ok tt
shown_verdict (refused f) = Err f

abbrev pub shown_read : asked.Read → Result Request paper.Refusal
shown_read (request r) = Ok (shown_request r)
shown_read (unread f) = Err f

-- 7: malformed, 8: illegal, but for how the name may start
abbrev pub fault_check : Fault → ℕ → Word → Check
fault_check faults.Malformed = malformed
fault_check faults.Illegal = illegal
fault_check faults.IllegalTake = illegal_but is_take
fault_check faults.IllegalTakeWithin = illegal_but is_take_within
fault_check faults.IllegalGive = illegal_but is_give

-- the checks of RDS, LST and LST*: the count of arguments, then 7 and 8 of the name
abbrev pub old_checks : (least most : ℕ) → List ℕ → Word → List Check
old_checks least most line old = miscounted least most line ∷ malformed 1 old ∷ illegal_but is_take 1 old ∷ []

-- a number of RDS as a count: 0 is none
abbrev pub count_of : Result (Option ℕ) NoNumber → Result (Option ℕ) NoNumber
count_of (Ok (Some n)) = cond (leb 1 n) (Ok (Some n)) (Err (record {}))
count_of (Ok None) = Ok None
count_of (Err e) = Err e

-- the checks of CPY and DUP but for the declaration: the count, 7 of both names, then 8 of both
abbrev pub both_checks : List ℕ → Fault → Word → Fault → Word → List Check
both_checks line take old give new =
    miscounted 2 3 line ∷ malformed 1 old ∷ malformed 2 new ∷ fault_check take 1 old ∷ fault_check give 2 new ∷ []

-- DEL or, if it destroys, DST: the request of these names, and by the place of the first and their count
abbrev pub removing : Bool → List Word → asked.Request
removing true = dst
removing false = del

abbrev pub removed : Bool → ℕ → ℕ → Request
removed true first count = Dst first count
removed false first count = Del first count

-- the function that a word of these names is
unfoldable pub function_of : List (List ℕ) → Option Function
function_of ns =
    cond (alone (67 ∷ 82 ∷ 68 ∷ []) ns) (Some function.Crd)
    (cond (alone (87 ∷ 82 ∷ 83 ∷ []) ns) (Some function.Wrs)
    (cond (alone (82 ∷ 68 ∷ 83 ∷ []) ns) (Some function.Rds)
    (cond (alone (67 ∷ 80 ∷ 89 ∷ []) ns) (Some function.Cpy)
    (cond (alone (68 ∷ 85 ∷ 80 ∷ []) ns) (Some function.Dup)
    (cond (alone (67 ∷ 72 ∷ 78 ∷ []) ns) (Some function.Chn)
    (cond (alone (68 ∷ 69 ∷ 76 ∷ []) ns) (Some function.Del)
    (cond (alone (68 ∷ 83 ∷ 84 ∷ []) ns) (Some function.Dst)
    (cond (alone (68 ∷ 80 ∷ 82 ∷ []) ns) (Some function.Dpr)
    (cond (alone (76 ∷ 83 ∷ 84 ∷ []) ns) (Some function.Lst)
    (cond (alone (76 ∷ 83 ∷ 84 ∷ 42 ∷ []) ns) (Some function.LstTree)
    (cond (alone (87 ∷ 82 ∷ 83 ∷ 42 ∷ []) ns) (Some function.Rewrite)
    None)))))))))))

-- and what it reads of a line
abbrev pub read_by : Option Function → List ℕ → asked.Read
read_by (Some function.Crd) = read_crd
read_by (Some function.Wrs) = read_wrs
read_by (Some function.Rds) = read_rds
read_by (Some function.Cpy) = read_cpy
read_by (Some function.Dup) = read_dup
read_by (Some function.Chn) = read_chn
read_by (Some function.Del) = read_names del
read_by (Some function.Dst) = read_names dst
read_by (Some function.Dpr) = read_dpr
read_by (Some function.Lst) = read_lst
read_by (Some function.LstTree) = read_tree
read_by (Some function.Rewrite) = read_rewrite
read_by None = λ line. unread (refusal_at 5 (whole 0))
