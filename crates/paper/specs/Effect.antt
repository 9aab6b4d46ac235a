-- Each function: its end checks in number order, its stores and its reply.
use Rattle.std.specs.Prelude.{Bool, true, false, ◌&&◌, not, cond, List, [], ◌∷◌, ◌++◌, ℕ, ◌+◌, eqb, ltb, length, take, drop, set}
use Rattle.paper.specs.Scan.{Found, at, nowhere, each_below}
use Rattle.paper.specs.Record.{level, heading_code, lifetime, marked, entry_code, heading_named, directory, simple, names, blank, heading_record, rewritten, text_record}
use Rattle.paper.specs.Layout.{Layout, name_field, entry_record}
use Rattle.paper.specs.Table.{rooms, rec, lay, frees, room, text_room}
use Rattle.paper.specs.Name.{dot_g, dot_t, chain}
use Rattle.paper.specs.Declaration.{Part, or_else}
use Rattle.paper.specs.Line.{Word}
use Rattle.paper.specs.Check.{Place, at_link, whole, Refusal, refusal_at, Check, check}
use Rattle.paper.specs.Request.{Begin, own, take_of, give_to}
use Rattle.paper.specs.Code.{joined, no_read, no_write, lacks}
use Rattle.paper.specs.Entry.{find, full, named, peopled}
use Rattle.paper.specs.Block.{blocks, block, blocks_of, file_text}
use Rattle.paper.specs.Walk.{State, start, file, Walked, reached, stopped, to_directory, last_name, End, arrived, astray, ended}
use Rattle.paper.specs.Store.{Store, puts, clear, clears, run}
use Rattle.paper.specs.Count.{recounts}
use Rattle.paper.specs.Listing.{directory_lines, base_lines, directory_tree, base_tree}

-- what a request does where its walks end: its end checks, its stores, whether an entry is displaced, and what it writes
pub record Plan : Type 0 where
  pub checks : List Check
  pub stores : List Store
  pub displaced : Bool
  pub reply : List ℕ

pub data Planned : Type 0 where
  plan : Plan → Planned
  halted : Refusal → Planned

-- the walk of this argument, and what follows it: "in a walk the link refused"
abbrev pub onward : ℕ → Walked → (State → Planned) → Planned
onward argument (reached s) f = f s
onward argument (stopped number link) f = halted (refusal_at number (at_link argument link))

abbrev pub chain_of : Word → List (List ℕ)
chain_of w = chain w.names

-- "in an end check the chain's last link": where the argument w ends
abbrev pub end_of : ℕ → Word → Place
end_of argument w = at_link argument (length (chain_of w))

abbrev pub inward : ℕ → End → (State → State → Planned) → Planned
inward argument (arrived d f) g = g d f
inward argument (astray number link) g = halted (refusal_at number (at_link argument link))

-- "`.nnnnnn` starts at that user's `.T`", or "enters the file in that user's `.G`": the user in whose base list a chain of user u starts
abbrev pub list_of : ℕ → Begin → ℕ
list_of u own = u
list_of u (take_of n) = n
list_of u (give_to n) = n

-- .. and the argument there: `.nnnnnn` stands for that one name
abbrev pub instead : List ℕ → Word → Word
instead n w = record { start = w.start; names = n ∷ drop 1 w.names }

abbrev pub begun : Begin → Word → Word
begun own w = w
begun (take_of n) w = instead dot_t w
begun (give_to n) w = instead dot_g w

-- to the directory of this argument, and to the file it names
abbrev pub to_holder : Layout → List ℕ → ℕ → ℕ → Word → (State → Planned) → Planned
to_holder L t u argument w f = onward argument (to_directory L t 1 (start u) (chain_of w)) f

abbrev pub to_end : Layout → List ℕ → ℕ → ℕ → Word → (State → State → Planned) → Planned
to_end L t u argument w g = inward argument (ended L t (start u) (chain_of w)) g

-- the text of heading h cleared "by position"
abbrev pub bared : List ℕ → ℕ → List Store
bared t h = each_below (λ p. clear (text_room t h p)) (blocks_of t h)

-- "After an entry is displaced or cleared": heading h cleared, "then its text by position"
unfoldable pub freed : List ℕ → ℕ → List Store
freed t h = clear h ∷ bared t h

-- document 02: "Each function corrects every heading whose counts its entry store made untrue .., after that entry store and before any
-- clearing": the stores up to the entry's, and those of the counts
abbrev pub with_counts : List ℕ → List Store → List Store
with_counts t ss = ss ++ recounts (run t ss)

-- entry e of t once r is laid in its place: its file "is now named by no entry"
unfoldable pub lost : List ℕ → ℕ → List ℕ → Bool
lost t e r = not (named (lay t e r) (heading_named (rec t e)))

unfoldable pub settled : List ℕ → ℕ → List ℕ → List Store
settled t e r = cond (lost t e r) (freed t (heading_named (rec t e))) []

-- a new entry: the place of its name, the directory, its name, the stores before it, and its record
pub record Making : Type 0 where
  pub place : Place
  pub directory : State
  pub name : List ℕ
  pub first : List Store
  pub entry : List ℕ

-- "An entry already bearing the new name"
abbrev pub borne : Layout → List ℕ → Making → Found
borne L t m = find L t m.directory.holder m.name

abbrev pub is_found : Found → Bool
is_found (at e) = true
is_found nowhere = false

-- ".. is overwritten in place (displaced)": the stores of a new entry
abbrev pub placing : List ℕ → Making → Found → List Store
placing t m (at e) = with_counts t (m.first ++ puts e m.entry ∷ []) ++ settled t e m.entry
placing t m nowhere = with_counts t (m.first ++ puts (room t (length m.first)) m.entry ∷ [])

-- the free records that it needs
abbrev pub needed : Making → Found → ℕ
needed m (at e) = length m.first
needed m nowhere = length m.first + 1

-- 13 and 14: "read inhibited", "write inhibited"
abbrev pub read_inhibited : Place → State → Check
read_inhibited place s = check (no_read s.code) 13 place

abbrev pub write_inhibited : Place → State → Check
write_inhibited place s = check (no_write s.code) 14 place

-- 15: "RDS, CPY: not simple; LST: no directory"
abbrev pub not_simple : Place → List ℕ → State → Check
not_simple place t s = check (not (simple (rec t (file t s)))) 15 place

abbrev pub no_directory : Place → List ℕ → State → Check
no_directory place t s = check (not (directory (rec t (file t s)))) 15 place

-- 16: "CHN: new name borne by an entry there, itself included"; a give, "where the link is taken"
abbrev pub taken : Place → Found → Check
taken place found = check (is_found found) 16 place

-- 17: "directory or base list full, nothing displaced"
abbrev pub full_up : Layout → List ℕ → Making → Check
full_up L t m = check (not (is_found (borne L t m)) && full t m.directory.holder) 17 m.place

-- heading h is "a directory with entries"
abbrev pub with_entries : List ℕ → ℕ → Bool
with_entries t h = directory (rec t h) && peopled t h

-- 18: "file losing its last entry is a directory with entries"
unfoldable pub losing : List ℕ → ℕ → List ℕ → Bool
losing t e r = lost t e r && with_entries t (heading_named (rec t e))

abbrev pub displacing : List ℕ → Found → List ℕ → Bool
displacing t (at e) r = losing t e r
displacing t nowhere r = false

abbrev pub still_peopled : Place → Bool → Check
still_peopled place losing = check losing 18 place

-- 19: "fewer free records than the request needs"
abbrev pub no_room : Layout → List ℕ → Making → Check
no_room L t m = check (ltb (length (frees t)) (needed m (borne L t m))) 19 (whole 0)

-- 20: "reply buffer too short"
abbrev pub too_short : List ℕ → List ℕ → Check
too_short out reply = check (ltb (length reply) (length out)) 20 (whole 0)

-- 21: "DPR: new code lacks a bit of the heading's"
abbrev pub lacking : Place → ℕ → ℕ → Check
lacking place new old = check (lacks new old) 21 place

-- 23 and 24: "23 marked, 24 lifetime L"
abbrev pub is_marked : Place → List ℕ → State → Check
is_marked place t s = check (marked (rec t (file t s))) 23 place

abbrev pub is_long : Place → List ℕ → State → Check
is_long place t s = check (eqb (lifetime (rec t (file t s))) 2) 24 place

-- 25: "level too low": "With U lowest, then P, A, S, a copy's level must be at least its source's"
abbrev pub too_low : Place → Part → List ℕ → Check
too_low place lev source = check (ltb (or_else lev (level source)) (level source)) 25 place

-- "A give never displaces."
abbrev pub link_taken : Layout → List ℕ → Begin → Making → List Check
link_taken L t own m = []
link_taken L t (take_of n) m = []
link_taken L t (give_to n) m = taken m.place (borne L t m) ∷ []

-- a new entry's plan, with the checks of the old name, 13, 15 and those after 19, where there is one, or a give's 16
unfoldable pub making : Layout → List ℕ → Making → List Check → List Check → List Check → Planned
making L t m thirteen fifteen late =
    plan (record {
      checks =
          thirteen ++ write_inhibited m.place m.directory ∷ fifteen
          ++ full_up L t m ∷ still_peopled m.place (displacing t (borne L t m) m.entry) ∷ no_room L t m ∷ late;
      stores = placing t m (borne L t m);
      displaced = is_found (borne L t m);
      reply = [];
    })

-- an entry of the directory d
abbrev pub entry_in : Layout → State → ℕ → ℕ → List ℕ → List ℕ
entry_in L d code heading name = entry_record L code d.holder.heading heading d.holder.user name

-- "heading, text by position" of a new file, on the lowest free records
unfoldable pub new_file : List ℕ → List ℕ → List ℕ → List Store
new_file t heading text =
    puts (room t 0) heading
    ∷ each_below (λ p. puts (room t (p + 1)) (text_record (room t 0) p (block text p))) (blocks (length text))

-- a new file under the last name of w: "In each the code goes into both heading and entry."
abbrev pub filing : Layout → List ℕ → ℕ → Word → State → ℕ → List ℕ → List ℕ → Making
filing L t argument w d code heading text =
    record {
      place = end_of argument w;
      directory = d;
      name = last_name (chain_of w);
      first = new_file t heading text;
      entry = entry_in L d code (room t 0) (last_name (chain_of w));
    }

-- "CRD: heading, entry."
unfoldable pub crd_plan : Layout → List ℕ → ℕ → Word → Part → Part → Planned
crd_plan L t u name level code =
    to_holder L t u 1 name
    (λ d. making L t (filing L t 1 name d (or_else code 0) (heading_record 0 (or_else level 0) (or_else code 0) 1 0) []) [] [] [])

-- "WRS, CPY: heading, text by position, entry."
unfoldable pub wrs_plan : Layout → List ℕ → ℕ → List ℕ → ℕ → Part → Part → Word → Planned
wrs_plan L t u text lifetime level code name =
    to_holder L t u 2 name
    (λ d.
    making L t (filing L t 2 name d (or_else code 0) (heading_record 1 (or_else level 0) (or_else code 0) lifetime (length text)) text) [] [] [])

-- a copy's heading: "CPY may have M or L, else takes the source's. Level: given, else U (CPY: the source's). Code: given, else 0."
abbrev pub copy_heading : List ℕ → Part → Part → Part → ℕ → List ℕ
copy_heading source life lev code length =
    heading_record 1 (or_else lev (level source)) (or_else code 0) (or_else life (lifetime source)) length

-- CPY of user u, its old name from the base list of user v
unfoldable pub cpy_plan : Layout → List ℕ → ℕ → ℕ → Word → Word → Part → Part → Part → Planned
cpy_plan L t v u old new life lev code =
    to_end L t v 1 old
    (λ _ f. to_holder L t u 2 new
    (λ d.
    let text = file_text t (file t f) in
    making L t (filing L t 2 new d (or_else code 0) (copy_heading (rec t (file t f)) life lev code (length text)) text)
    (read_inhibited (end_of 1 old) f ∷ []) (not_simple (end_of 1 old) t f ∷ [])
    (is_marked (end_of 1 old) t f ∷ too_low (whole 3) lev (rec t (file t f)) ∷ [])))

-- the entry of DUP, in d, of the file that f came to
abbrev pub linking : Layout → List ℕ → State → State → Word → Part → Making
linking L t f d new code =
    record {
      place = end_of 2 new;
      directory = d;
      name = last_name (chain_of new);
      first = [];
      entry = entry_in L d (joined (entry_code (rec t f.entry)) (or_else code 0)) (file t f) (last_name (chain_of new));
    }

-- "DUP: entry, its code the old entry's joined with the declared one." The old name from the base list of user v, the new of user u
unfoldable pub dup_plan : Layout → List ℕ → ℕ → ℕ → Begin → Word → Word → Part → Planned
dup_plan L t v u to old new code =
    to_end L t v 1 old
    (λ _ f. to_holder L t u 2 new
    (λ d. making L t (linking L t f d new code) [] (link_taken L t to (linking L t f d new code)) []))

-- a plan that displaces nothing and writes nothing
abbrev pub storing : List Check → List Store → Planned
storing checks stores = plan (record { checks = checks; stores = stores; displaced = false; reply = [] })

-- an entry with its new name
unfoldable pub renamed : Layout → List ℕ → List ℕ → List ℕ
renamed L r name = take 9 r ++ name_field L name

-- "CHN: the entry with its new name."
abbrev pub chn_at : Layout → List ℕ → Place → List ℕ → State → State → Planned
chn_at L t place name d f =
    storing (write_inhibited place d ∷ taken (whole 2) (find L t d.holder name) ∷ [])
    (puts f.entry (renamed L (rec t f.entry) name) ∷ [])

unfoldable pub chn_plan : Layout → List ℕ → ℕ → Word → Word → Planned
chn_plan L t u old link = to_end L t u 1 old (chn_at L t (end_of 1 old) (last_name link.names))

-- a heading with its new code
unfoldable pub recoded : List ℕ → ℕ → List ℕ
recoded r code = set r 3 code

-- "DPR: the heading with its new code."
abbrev pub dpr_at : List ℕ → Place → ℕ → State → Planned
dpr_at t place code f =
    storing (write_inhibited place f ∷ lacking (whole 2) code (heading_code (rec t (file t f))) ∷ [])
    (puts (file t f) (recoded (rec t (file t f)) code) ∷ [])

unfoldable pub dpr_plan : Layout → List ℕ → ℕ → Word → ℕ → Planned
dpr_plan L t u name code = to_end L t u 1 name (λ _ f. dpr_at t (end_of 1 name) code f)

-- "DEL: for each name in turn, the entry cleared." One name, the argument of this number
abbrev pub del_at : List ℕ → Place → State → State → Planned
del_at t place d f =
    storing (write_inhibited place d ∷ still_peopled place (losing t f.entry blank) ∷ [])
    (with_counts t (clear f.entry ∷ []) ++ settled t f.entry blank)

unfoldable pub del_plan : Layout → List ℕ → ℕ → ℕ → Word → Planned
del_plan L t u argument name = to_end L t u argument name (del_at t (end_of argument name))

-- document 02, `DST`: "heading cleared, text by position, then every entry naming it, by record number"
unfoldable pub destroying : List ℕ → ℕ → List Store
destroying t h = freed t h ++ clears (λ i. names h (rec t i)) (rooms t)

-- "`DST` .. needs write on each file, and asks nothing of the directories", "then the holders' counts"; "18 for a directory with entries, its
-- own self-entry included". One name, the argument of this number
abbrev pub dst_at : List ℕ → Place → State → Planned
dst_at t place f =
    storing (write_inhibited place f ∷ still_peopled place (with_entries t (file t f)) ∷ []) (with_counts t (destroying t (file t f)))

unfoldable pub dst_plan : Layout → List ℕ → ℕ → ℕ → Word → Planned
dst_plan L t u argument name = to_end L t u argument name (λ _ f. dst_at t (end_of argument name) f)

-- a plan that stores nothing and writes to the reply buffer, with the checks before 20 and those after it
abbrev pub showing : List Check → List ℕ → List ℕ → List Check → Planned
showing checks out reply late =
    plan (record { checks = checks ++ too_short out reply ∷ late; stores = []; displaced = false; reply = out })

abbrev pub writing : List Check → List ℕ → List ℕ → Planned
writing checks out reply = showing checks out reply []

-- "RDS name first count .. in bytes; a dash or nothing means 0 and to the end": that part of a text. "first equal to [the length]
-- gives no bytes; a count past the end gives what there is"
unfoldable pub part : List ℕ → Part → Part → List ℕ
part text first count = take (or_else count (length text)) (drop (or_else first 0) text)

-- 28: "First beyond the length is refused"
abbrev pub beyond_end : Place → Part → List ℕ → Check
beyond_end place first text = check (ltb (length text) (or_else first 0)) 28 place

-- "RDS writes the text to the front of the reply buffer": the part of it that was asked for
unfoldable pub rds_plan : Layout → List ℕ → ℕ → List ℕ → Word → Part → Part → Planned
rds_plan L t u reply name first count =
    to_end L t u 1 name
    (λ _ f.
    let text = file_text t (file t f) in
    showing (read_inhibited (end_of 1 name) f ∷ not_simple (end_of 1 name) t f ∷ []) (part text first count) reply
    (is_marked (end_of 1 name) t f ∷ beyond_end (whole 2) first text ∷ []))

-- "LST writes one line an entry"
unfoldable pub lst_plan : Layout → List ℕ → ℕ → List ℕ → Word → Planned
lst_plan L t u reply name =
    to_end L t u 1 name
    (λ _ f. writing (read_inhibited (end_of 1 name) f ∷ no_directory (end_of 1 name) t f ∷ []) (directory_lines L t (file t f)) reply)

-- "LST of a lone point"
unfoldable pub lst_base_plan : Layout → List ℕ → ℕ → List ℕ → Planned
lst_base_plan L t u reply = writing [] (base_lines L t u) reply

-- "`LST*` name digit lists a directory and, under each entry that is a readable directory, its entries"
unfoldable pub lst_tree_plan : Layout → List ℕ → ℕ → List ℕ → Word → ℕ → Planned
lst_tree_plan L t u reply name depth =
    to_end L t u 1 name
    (λ _ f. writing (read_inhibited (end_of 1 name) f ∷ no_directory (end_of 1 name) t f ∷ []) (directory_tree L t depth 0 (file t f)) reply)

-- ".. a lone point .. included"
unfoldable pub lst_base_tree_plan : Layout → List ℕ → ℕ → List ℕ → ℕ → Planned
lst_base_tree_plan L t u reply depth = writing [] (base_tree L t depth u) reply

-- document 02, `WRS*`: "the heading marked (byte 5 is 1) with length 0, old text cleared by position"
unfoldable pub emptying : List ℕ → ℕ → List Store
emptying t h = puts h (rewritten (rec t h) 1 0) ∷ bared t h

-- the table "with that one file marked and empty"
abbrev pub emptied : List ℕ → ℕ → List ℕ
emptied t h = run t (emptying t h)

-- "new text into the lowest records then free", by position
unfoldable pub laying : List ℕ → ℕ → List ℕ → List Store
laying t h text = each_below (λ p. puts (room t p) (text_record h p (block text p))) (blocks (length text))

-- ".. heading unmarked with the new length"
unfoldable pub rewriting : List ℕ → ℕ → List ℕ → List Store
rewriting t h text = emptying t h ++ laying (emptied t h) h text ++ puts h (rewritten (rec t h) 0 (length text)) ∷ []

-- 19: "Room is free records plus the old text's."
abbrev pub no_room_for : List ℕ → ℕ → List ℕ → Check
no_room_for t h text = check (ltb (length (frees t) + blocks_of t h) (blocks (length text))) 19 (whole 0)

-- "`WRS*` decl name, with a text, rewrites an existing simple file of lifetime M .. It needs write on the file."
abbrev pub rewrite_at : List ℕ → List ℕ → Place → State → Planned
rewrite_at t text place f =
    storing (write_inhibited place f ∷ not_simple place t f ∷ no_room_for t (file t f) text ∷ is_long place t f ∷ []) (rewriting t (file t f) text)

unfoldable pub rewrite_plan : Layout → List ℕ → ℕ → List ℕ → Word → Planned
rewrite_plan L t u text name = to_end L t u 2 name (λ _ f. rewrite_at t text (end_of 2 name) f)
