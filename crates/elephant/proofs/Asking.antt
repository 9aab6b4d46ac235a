-- A request of the reader stands for the paper's that was read: its names are the line's own words, and its parts are shown by cases,
-- so nothing is lost.
use mathlib.Core.Bool.{false}
use mathlib.Core.List.{List, [], ◌∷◌}
use mathlib.Core.Path.{◌≡◌, refl, sym, ap, ◌∙◌}
use Prim.Native.Nat.{ℕ}
use denote.Enum.Declared.{tag_of}
use types.Run.{OneOf, miss}
use Rattle.paper.specs.Declaration.{Part, given, not_given}
use Rattle.paper.specs.Request as asked
use Rattle.paper.specs.Request.{crd, wrs, rds, cpy, dup, chn, del, dst, dpr, lst, lst_base, lst_tree, lst_base_tree, rewrite, request, unread, read, text_too_long}
use Rattle.paper.specs.Request.{own, take_of, give_to}
use Rattle.laws.proofs.Tests.{clash}
use Rattle.words.specs.Shown.{begin_shown, begin_meant}
use Rattle.records.specs.Part.{shown_part, meant_part}
use Rattle.reader.specs.Asked.{shown_request}
use Rattle.reader.specs.Tied.{Tied, TiedRead}
use Rattle.reader.specs.declared.request.Request.{Request}
use Rattle.reader.specs.contracts.request.Request.{the_type}
use Rattle.reader.specs.declared.request.Request.TheVariants.{Crd, Wrs, Rds, Cpy, Dup, Chn, Del, Dst, Dpr, Lst, LstBase, LstTree, LstBaseTree, Rewrite}
use Rattle.std.specs.Prelude.{Ok}
use Rattle.reader.proofs.Ties.{tied}
use Rattle.elephant.specs.Meant.{request_meant}
use Rattle.reader.specs.Asked.{shown_read}
use Rattle.elephant.proofs.Grants.{word-there}

begin-back : (b : asked.Begin) → begin_meant (begin_shown b) ≡ b
begin-back own = refl
begin-back (take_of n) = refl
begin-back (give_to n) = refl

part-back : (p : Part) → meant_part (shown_part p) ≡ p
part-back (given n) = refl
part-back not_given = refl

pub request-back : (line : List ℕ) (q : asked.Request) → Tied line q → request_meant line (shown_request q) ≡ q
request-back line (crd w v d) t = rw (word-there line 1 w t, part-back v, part-back d)
request-back line (wrs f v d w) t = rw (word-there line 2 w t, part-back v, part-back d)
request-back line (rds b w f n) t = rw (begin-back b, word-there line 1 w t, part-back f, part-back n)
request-back line (cpy b o n f v d) t =
    rw (begin-back b, word-there line 1 o t.0, word-there line 2 n t.1, part-back f, part-back v, part-back d)
request-back line (dup b o e n d) t =
    rw (begin-back b, begin-back e, word-there line 1 o t.0, word-there line 2 n t.1, part-back d)
request-back line (chn o l) t = rw (word-there line 1 o t.0, word-there line 2 l t.1)
request-back line (del ws) t = ap del (sym t)
request-back line (dst ws) t = ap dst (sym t)
request-back line (dpr w d) t = rw (word-there line 1 w t)
request-back line (lst b w) t = rw (begin-back b, word-there line 1 w t)
request-back line lst_base t = refl
request-back line (lst_tree b w d) t = rw (begin-back b, word-there line 1 w t)
request-back line (lst_base_tree d) t = refl
request-back line (rewrite w) t = rw (word-there line 2 w t)

-- what was read, from what the reader answers
pub read-granted : (line : List ℕ) (r : Request) → Ok r ≡ shown_read (read line) → read line ≡ request (request_meant line r)
read-granted line r e = go (read line) (tied line) e
  where
    go : (x : asked.Read) → TiedRead line x → Ok r ≡ shown_read x → x ≡ request (request_meant line r)
    go (request q) t z =
        unfold TiedRead in
        let y : r ≡ shown_request q = cc in
        ap request (sym (ap (request_meant line) y ∙ request-back line q t))
    go (unread f) t z = clash (cc)

-- only a WRS or a WRS* has a text that may be too long
pub no_text : (r : Request) → OneOf (0 ∷ 2 ∷ 3 ∷ 4 ∷ 5 ∷ 6 ∷ 7 ∷ 8 ∷ 9 ∷ 10 ∷ 11 ∷ 12 ∷ []) (tag_of the_type r)
    → (line text : List ℕ) → text_too_long (request_meant line r) text ≡ false
no_text (Crd n v d) h line text = refl
no_text (Wrs f v d n) h line text = absurd (miss (0 ∷ 2 ∷ 3 ∷ 4 ∷ 5 ∷ 6 ∷ 7 ∷ 8 ∷ 9 ∷ 10 ∷ 11 ∷ 12 ∷ []) 1 tt h)
no_text (Rds b n f c) h line text = refl
no_text (Cpy b o n f v d) h line text = refl
no_text (Dup b o e n d) h line text = refl
no_text (Chn o l) h line text = refl
no_text (Del f n) h line text = refl
no_text (Dst f n) h line text = refl
no_text (Dpr n d) h line text = refl
no_text (Lst b n) h line text = refl
no_text LstBase h line text = refl
no_text (LstTree b n d) h line text = refl
no_text (LstBaseTree d) h line text = refl
no_text (Rewrite n) h line text = absurd (miss (0 ∷ 2 ∷ 3 ∷ 4 ∷ 5 ∷ 6 ∷ 7 ∷ 8 ∷ 9 ∷ 10 ∷ 11 ∷ 12 ∷ []) 13 tt h)
