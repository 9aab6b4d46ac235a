-- The paper's request that a request of the reader stands for, by the words at its offsets in the line.
use Rattle.std.specs.Prelude.{List, ℕ, drop}
use Rattle.paper.specs.Line.{words}
use Rattle.paper.specs.Request as asked
use Rattle.paper.specs.Request.{crd, wrs, rds, cpy, dup, chn, del, dst, dpr, lst, lst_base, lst_tree, lst_base_tree, rewrite}
use Rattle.words.specs.Place.{word_at}
use Rattle.words.specs.Shown.{begin_meant}
use Rattle.records.specs.Part.{meant_part}
use Rattle.elephant.specs.declared.removal.Removal.{Removal}
use Rattle.elephant.specs.declared.removal.Removal.TheVariants.{Delete, Destroy}
use Rattle.reader.specs.declared.request.Request.{Request}
use Rattle.reader.specs.declared.request.Request.TheVariants.{Crd, Wrs, Rds, Cpy, Dup, Chn, Del, Dst, Dpr, Lst, LstBase, LstTree, LstBaseTree, Rewrite}

-- DEL or DST of the names from a place on, so many
abbrev pub removal_asked : Removal → ℕ → ℕ → Request
removal_asked Delete first count = Del first count
removal_asked Destroy first count = Dst first count

abbrev pub request_meant : List ℕ → Request → asked.Request
request_meant line (Crd name level digit) = crd (word_at line name) (meant_part level) (meant_part digit)
request_meant line (Wrs lifetime level digit name) = wrs lifetime (meant_part level) (meant_part digit) (word_at line name)
request_meant line (Rds from name first count) = rds (begin_meant from) (word_at line name) (meant_part first) (meant_part count)
request_meant line (Cpy from old new lifetime level digit) =
    cpy (begin_meant from) (word_at line old) (word_at line new) (meant_part lifetime) (meant_part level) (meant_part digit)
request_meant line (Dup from old to new digit) =
    dup (begin_meant from) (word_at line old) (begin_meant to) (word_at line new) (meant_part digit)
request_meant line (Chn old link) = chn (word_at line old) (word_at line link)
request_meant line (Del first count) = del (drop 1 (words line))
request_meant line (Dst first count) = dst (drop 1 (words line))
request_meant line (Dpr name code) = dpr (word_at line name) code
request_meant line (Lst from name) = lst (begin_meant from) (word_at line name)
request_meant line LstBase = lst_base
request_meant line (LstTree from name depth) = lst_tree (begin_meant from) (word_at line name) depth
request_meant line (LstBaseTree depth) = lst_base_tree depth
request_meant line (Rewrite name) = rewrite (word_at line name)
