-- A line longer than 257 bytes gets 4 whatever its bytes are, and so do its first 257; a text longer than 24,001 bytes gets 10 in a
-- WRS and is not looked at elsewhere, and so are its first 24,001. So what is cut off changes no answer, no table and no reply.
use mathlib.Core.Bool.{true, false}
use mathlib.Core.List.{List}
use mathlib.Core.Logic.{◌⊎◌, inl, inr}
use mathlib.Core.Path.{◌≡◌, refl, ◌∙◌}
use Prim.Native.Nat.{ℕ, ◌≤◌, ◌<◌}
use native.Mathlib.Omega.{arith}
use lib.Dec.{ltb}
use lib.ListN.{length, take}
use lib.Seq.{take_all, length-take-le}
use borrow.Author.Tests.{lt-ltb, lt-leb, ltb-true, ltb-false}
use Rattle.paper.specs.Layout.{boxed}
use Rattle.paper.specs.Line.{legal_line}
use Rattle.paper.specs.Check.{Verdict, passed, refused, verdict}
use Rattle.paper.specs.Request.{Read, request, unread, read, asked, with_text, crd, wrs, rds, cpy, dup, chn, del, dst, dpr, lst, lst_base, lst_tree, lst_base_tree, rewrite}
use Rattle.paper.specs.Answer.{requested, entrance, admitted, acted, granted}
use Rattle.laws.proofs.Tests.{truth}

-- at most n, or more
fits : (n : ℕ) (s : List ℕ) → (length s ≤ n) ⊎ (n < length s)
fits n s = go (truth (ltb n (length s)))
  where
    go : (ltb n (length s) ≡ true) ⊎ (ltb n (length s) ≡ false) → (length s ≤ n) ⊎ (n < length s)
    go (inl e) = inr (ltb-true n (length s) e)
    go (inr e) = inl (ltb-false n (length s) e)

long-line : (line : List ℕ) → 256 < length line → legal_line line ≡ false
unfolding legal_line
long-line line l = rw (lt-leb (length line) 256 l)

read-cut : (line : List ℕ) → read (take 257 line) ≡ read line
unfolding read
read-cut line = go (fits 257 line)
  where
    go : (length line ≤ 257) ⊎ (257 < length line) → read (take 257 line) ≡ read line
    go (inl l) = rw (take_all 257 line l)
    go (inr l) =
        let n : length (take 257 line) ≡ 257 = length-take-le 257 line (omega arith) in
        rw (long-line line (omega arith), long-line (take 257 line) (omega arith))

module _ (t reply : List ℕ) (u k : ℕ) (text : List ℕ) (l : 24000 < length text) (m : 24000 < length (take 24001 text)) where
  acted-long : (r : Read) → acted boxed t (take 24001 text) reply u k (with_text (take 24001 text) r) ≡ acted boxed t text reply u k (with_text text r)
  unfolding granted verdict
  acted-long (unread f) = refl
  acted-long (request (crd name level code)) = refl
  acted-long (request (wrs lifetime level code name)) = rw (lt-ltb 24000 (length text) l, lt-ltb 24000 (length (take 24001 text)) m)
  acted-long (request (rds from name first count)) = refl
  acted-long (request (cpy from old new lifetime level code)) = refl
  acted-long (request (dup from old to new code)) = refl
  acted-long (request (chn old link)) = refl
  acted-long (request (del names)) = refl
  acted-long (request (dst names)) = refl
  acted-long (request (dpr name code)) = refl
  acted-long (request (lst from name)) = refl
  acted-long (request lst_base) = refl
  acted-long (request (lst_tree from name depth)) = refl
  acted-long (request (lst_base_tree depth)) = refl
  acted-long (request (rewrite name)) = rw (lt-ltb 24000 (length text) l, lt-ltb 24000 (length (take 24001 text)) m)

-- a line cut after 257 bytes
pub line-cut : (t line text reply : List ℕ) (u k : ℕ) → requested boxed t (take 257 line) text reply u k ≡ requested boxed t line text reply u k
unfolding requested asked
line-cut t line text reply u k = go (entrance boxed t u)
  where
    go : (v : Verdict) → admitted boxed t (take 257 line) text reply u k v ≡ admitted boxed t line text reply u k v
    go (refused r) = refl
    go passed = rw (read-cut line)

-- a text cut after 24,001 bytes
text-cut : (t line text reply : List ℕ) (u k : ℕ) → requested boxed t line (take 24001 text) reply u k ≡ requested boxed t line text reply u k
unfolding requested asked
text-cut t line text reply u k = go (fits 24001 text) (entrance boxed t u)
  where
    go : (length text ≤ 24001) ⊎ (24001 < length text) → (v : Verdict)
        → admitted boxed t line (take 24001 text) reply u k v ≡ admitted boxed t line text reply u k v
    go f (refused r) = refl
    go (inl l) passed = rw (take_all 24001 text l)
    go (inr l) passed =
        let n : length (take 24001 text) ≡ 24001 = length-take-le 24001 text (omega arith) in
        acted-long t reply u k text (omega arith) (omega arith) (read line)

pub requested-cut : (t line text reply : List ℕ) (u k : ℕ)
    → requested boxed t (take 257 line) (take 24001 text) reply u k ≡ requested boxed t line text reply u k
requested-cut t line text reply u k = line-cut t line (take 24001 text) reply u k ∙ text-cut t line text reply u k
