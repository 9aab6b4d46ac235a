-- RDS, LST and LST* are one reading: the file that 15 asks for, and what is written of it.
use Rattle.std.specs.Prelude.{Bool, not, List, [], ◌∷◌, ℕ}
use Rattle.paper.specs.Record.{marked, directory, simple}
use Rattle.paper.specs.Layout.{boxed}
use Rattle.paper.specs.Table.{rec}
use Rattle.paper.specs.Line.{Word}
use Rattle.paper.specs.Block.{file_text}
use Rattle.paper.specs.Declaration.{Part}
use Rattle.paper.specs.Check.{Place, whole, Check, check}
use Rattle.paper.specs.Listing.{directory_lines, directory_tree}
use Rattle.paper.specs.Walk.{State, file}
use Rattle.paper.specs.Effect.{Planned, read_inhibited, end_of, to_end, showing, part, beyond_end}
use Rattle.records.specs.Part.{meant_part}
use Rattle.elephant.specs.declared.reply.Sheet.{Sheet}
use Rattle.elephant.specs.declared.reply.Sheet.TheVariants.{Text, Lines, Deep}

-- "RDS, CPY: not simple; LST: no directory"
abbrev pub is_right : Sheet → List ℕ → Bool
is_right (Text first count) r = simple r
is_right Lines r = directory r
is_right (Deep depth) r = directory r

-- "RDS writes the text", "LST writes one line an entry"
abbrev pub written : Sheet → List ℕ → ℕ → List ℕ
written (Text first count) t h = part (file_text t h) (meant_part first) (meant_part count)
written Lines t h = directory_lines boxed t h
written (Deep depth) t h = directory_tree boxed t depth 0 h

-- the checks after 20 of a text: "23 marked", "28 first beyond the end"
abbrev pub text_late : Place → Part → List ℕ → ℕ → List Check
text_late place first t h = check (marked (rec t h)) 23 place ∷ beyond_end (whole 2) first (file_text t h) ∷ []

abbrev pub late : Sheet → Place → List ℕ → ℕ → List Check
late (Text first count) place t h = text_late place (meant_part first) t h
late Lines place t h = []
late (Deep depth) place t h = []

-- at the end of the walk, which is this place: `rds_plan`, `lst_plan` and `lst_tree_plan`
abbrev pub reading_at : Sheet → Place → List ℕ → List ℕ → State → Planned
reading_at s place t reply f =
    showing (read_inhibited place f ∷ check (not (is_right s (rec t (file t f)))) 15 place ∷ []) (written s t (file t f)) reply (late s place t (file t f))

abbrev pub reading : Sheet → List ℕ → ℕ → List ℕ → Word → Planned
reading s t u reply name = to_end boxed t u 1 name (λ _ f. reading_at s (end_of 1 name) t reply f)
