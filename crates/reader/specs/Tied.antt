-- From the offsets in a request to the paper's words: the names of what is read are the words of the line, by number.
use Rattle.std.specs.Prelude.{List, ◌≡◌, ℕ, drop}
use Rattle.paper.specs.Line.{words, word}
use Rattle.paper.specs.Request.{Request, crd, wrs, rds, cpy, dup, chn, del, dst, dpr, lst, lst_base, lst_tree, lst_base_tree, rewrite, Read, request, unread}

-- each name of the request is the argument where the function has it
abbrev pub Tied : List ℕ → Request → Type 0
Tied line (crd w v d) = w ≡ word line 1
Tied line (wrs f v d w) = w ≡ word line 2
Tied line (rds b w f n) = w ≡ word line 1
Tied line (cpy b o n f v d) = (o ≡ word line 1) × (n ≡ word line 2)
Tied line (dup b o e n d) = (o ≡ word line 1) × (n ≡ word line 2)
Tied line (chn o l) = (o ≡ word line 1) × (l ≡ word line 2)
Tied line (del ws) = ws ≡ drop 1 (words line)
Tied line (dst ws) = ws ≡ drop 1 (words line)
Tied line (dpr w d) = w ≡ word line 1
Tied line (lst b w) = w ≡ word line 1
Tied line lst_base = Unit
Tied line (lst_tree b w d) = w ≡ word line 1
Tied line (lst_base_tree d) = Unit
Tied line (rewrite w) = w ≡ word line 2

-- and a refusal has none
unfoldable pub TiedRead : List ℕ → Read → Type 0
TiedRead line (request r) = Tied line r
TiedRead line (unread f) = Unit
