-- The words of the tool gserve.
use Rattle.std.specs.Prelude.{◌≤◌, ℕ, List, Result, Err, IfOk, codes, length, if◌then◌else◌}
use Rattle.std.specs.Str.{bytes_eq}
use Rattle.script.proofs.Chosen.{either_way}
use Rattle.script.proofs.RowFacts.{made₂}
use Rattle.script.specs.Fields.{field}
use Rattle.script.specs.Records.{Fields}
use Rattle.script.specs.Rows.{makes₀, makes₁, makes₂}
use Rattle.script.specs.declared.fault.Code.{Code}
use Rattle.script.specs.declared.fault.Code.TheVariants as code
use Rattle.serve_script.specs.WordLaws.{enough}
use Rattle.serve_script.specs.Words.{next_numbers, no_query_number, query_number}
use Rattle.served_graph.specs.declared.op.GraphOp.{GraphOp}
use Rattle.served_graph.specs.declared.op.GraphOp.TheVariants as op
use Rattle.serve_script.specs.declared.edge_words.EdgeQuery.{EdgeQuery}
use Rattle.serve_script.specs.declared.edge_words.EdgeQuery.TheVariants as query

-- the operation of a word and the fields behind it
unfoldable pub operation_of : List ℕ → Fields → Result GraphOp Code
operation_of word fields =
    if bytes_eq word (codes "add") then makes₂ op.Add (next_numbers fields)
    else if bytes_eq word (codes "cut") then makes₂ op.Cut (next_numbers fields)
    else Err code.Op

-- how many numbers an operation has, which are fields behind its word
abbrev pub numbers_in : GraphOp → ℕ
numbers_in operation = 2

pub operation_fits : (word : List ℕ) (fields : Fields) → IfOk (operation_of word fields) (λ operation. numbers_in operation ≤ length fields)
unfolding operation_of
operation_fits word fields =
    let Fits : GraphOp → Type 0 = λ operation. numbers_in operation ≤ length fields in
    let P : Result GraphOp Code → Type 0 = λ read. IfOk read Fits in
    let two : IfOk (next_numbers fields) (λ f. 2 ≤ length fields) = enough 2 fields _ in
    either_way P (bytes_eq word (codes "add")) _ _ (made₂ Fits (λ f. 2 ≤ length fields) _ _ two (λ f h. h))
    (either_way P (bytes_eq word (codes "cut")) _ _ (made₂ Fits (λ f. 2 ≤ length fields) _ _ two (λ f h. h))
    tt)

-- the query of a record
unfoldable pub query_of : Fields → Result EdgeQuery Code
query_of r =
    if bytes_eq (field r 2) (codes "degree") then makes₁ query.Degree (query_number r)
    else if bytes_eq (field r 2) (codes "bfs") then makes₁ query.Bfs (query_number r)
    else if bytes_eq (field r 2) (codes "size") then makes₀ query.Size (no_query_number r)
    else Err code.Op
