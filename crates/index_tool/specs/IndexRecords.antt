-- The records of the tool index.
use Rattle.std.specs.Prelude.{◌≡◌, ◌≤◌, ℕ, Result, Err, codes, length, if◌then◌else◌}
use Rattle.std.specs.List.{AllByRecursion}
use Rattle.script.specs.Records.{Fields}
use Rattle.script.specs.Rows.{has_verb, makes₁, makes₂}
use Rattle.script.specs.Shapes as shape
use Rattle.index_tool.specs.Terms.{IsTerm, number_term, some_terms, two_terms}
use Rattle.script.specs.declared.fault.Code.{Code}
use Rattle.script.specs.declared.fault.Code.TheVariants as code
use Rattle.index_tool.specs.declared.commands.IndexCommand.{IndexCommand}
use Rattle.index_tool.specs.declared.commands.IndexCommand.TheVariants as command

-- what the record with this number says: a row for each verb, with its fields
unfoldable pub index_command : ℕ → Fields → Result IndexCommand Code
index_command place r =
    if has_verb r (codes "doc") then makes₂ (command.Doc place) (shape.number_text r)
    else if has_verb r (codes "and") then makes₁ (command.And place) (some_terms r)
    else if has_verb r (codes "or") then makes₁ (command.Or place) (some_terms r)
    else if has_verb r (codes "without") then makes₁ (command.Without place) (two_terms r)
    else if has_verb r (codes "top") then makes₂ (command.Top place) (number_term r)
    else Err code.Verb

-- the terms of a command are lawful, and as many as its verb asks for
abbrev pub HasTerms : IndexCommand → Type 0
HasTerms (command.Doc place i text) = Unit {0}
HasTerms (command.And place terms) = (1 ≤ length terms) × AllByRecursion IsTerm terms
HasTerms (command.Or place terms) = (1 ≤ length terms) × AllByRecursion IsTerm terms
HasTerms (command.Without place terms) = (length terms ≡ 2) × AllByRecursion IsTerm terms
HasTerms (command.Top place i term) = IsTerm term
