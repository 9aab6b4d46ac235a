-- The first word is known by its place and its stretch, so the function is the definition's,
-- and the reader that is called is the one it names.
use Rattle.reader.proofs.Functions.{first_word}
use Rattle.reader.proofs.request.read_function.Goals as goal

pub returns-in_default : goal.returns-in_default
returns-in_default c = rw (first_word _ _ _ _ c.word_at.ensures c.lone_word.ensures c.in_default.ensures, c.whole.ensures)

pub returns-in-Crd : goal.returns-in-Crd
returns-in-Crd c =
    let f = first_word _ _ _ _ c.word_at.ensures c.lone_word.ensures c.in-Some.ensures in
    rw (f, c.in-Crd.is) c.read_crd.ensures

pub returns-in-Wrs : goal.returns-in-Wrs
returns-in-Wrs c =
    let f = first_word _ _ _ _ c.word_at.ensures c.lone_word.ensures c.in-Some.ensures in
    rw (f, c.in-Wrs.is) c.read_wrs.ensures

pub returns-in-Rds : goal.returns-in-Rds
returns-in-Rds c =
    let f = first_word _ _ _ _ c.word_at.ensures c.lone_word.ensures c.in-Some.ensures in
    rw (f, c.in-Rds.is) c.read_rds.ensures

pub returns-in-Cpy : goal.returns-in-Cpy
returns-in-Cpy c =
    let f = first_word _ _ _ _ c.word_at.ensures c.lone_word.ensures c.in-Some.ensures in
    rw (f, c.in-Cpy.is) c.read_cpy.ensures

pub returns-in-Dup : goal.returns-in-Dup
returns-in-Dup c =
    let f = first_word _ _ _ _ c.word_at.ensures c.lone_word.ensures c.in-Some.ensures in
    rw (f, c.in-Dup.is) c.read_dup.ensures

pub returns-in-Chn : goal.returns-in-Chn
returns-in-Chn c =
    let f = first_word _ _ _ _ c.word_at.ensures c.lone_word.ensures c.in-Some.ensures in
    rw (f, c.in-Chn.is) c.read_chn.ensures

pub returns-in-Del : goal.returns-in-Del
returns-in-Del c =
    let f = first_word _ _ _ _ c.word_at.ensures c.lone_word.ensures c.in-Some.ensures in
    rw (f, c.in-Del.is) c.read_names.ensures

pub returns-in-Dst : goal.returns-in-Dst
returns-in-Dst c =
    let f = first_word _ _ _ _ c.word_at.ensures c.lone_word.ensures c.in-Some.ensures in
    rw (f, c.in-Dst.is) c.read_names-in-Dst.ensures

pub returns-in-Dpr : goal.returns-in-Dpr
returns-in-Dpr c =
    let f = first_word _ _ _ _ c.word_at.ensures c.lone_word.ensures c.in-Some.ensures in
    rw (f, c.in-Dpr.is) c.read_dpr.ensures

pub returns-in-Lst : goal.returns-in-Lst
returns-in-Lst c =
    let f = first_word _ _ _ _ c.word_at.ensures c.lone_word.ensures c.in-Some.ensures in
    rw (f, c.in-Lst.is) c.read_lst.ensures

pub returns-in-LstTree : goal.returns-in-LstTree
returns-in-LstTree c =
    let f = first_word _ _ _ _ c.word_at.ensures c.lone_word.ensures c.in-Some.ensures in
    rw (f, c.in-LstTree.is) c.read_tree.ensures

pub returns-in-Rewrite : goal.returns-in-Rewrite
returns-in-Rewrite c =
    let f = first_word _ _ _ _ c.word_at.ensures c.lone_word.ensures c.in-Some.ensures in
    rw (f, c.in-Rewrite.is) c.read_rewrite.ensures
