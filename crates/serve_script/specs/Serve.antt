-- The words of the tool serve.
use Rattle.std.specs.Prelude.{ℕ, List, Result, Err, codes, if◌then◌else◌}
use Rattle.std.specs.Str.{bytes_eq}
use Rattle.script.specs.Fields.{field}
use Rattle.script.specs.Records.{Fields}
use Rattle.script.specs.Rows.{makes₀, makes₁, makes₂}
use Rattle.script.specs.declared.fault.Code.{Code}
use Rattle.script.specs.declared.fault.Code.TheVariants as code
use Rattle.serve_script.specs.Words.{next_number, next_numbers, no_query_number, query_number, query_numbers}
use Rattle.op_runs.specs.declared.op.Op.{Op}
use Rattle.op_runs.specs.declared.op.Op.TheVariants as op
use Rattle.serve_script.specs.declared.map_words.ServeQuery.{ServeQuery}
use Rattle.serve_script.specs.declared.map_words.ServeQuery.TheVariants as query

-- the operation of a word and the fields behind it
unfoldable pub operation_of : List ℕ → Fields → Result Op Code
operation_of word fields =
    if bytes_eq word (codes "put") then makes₂ op.Put (next_numbers fields)
    else if bytes_eq word (codes "del") then makes₁ op.Del (next_number fields)
    else if bytes_eq word (codes "add") then makes₂ op.Add (next_numbers fields)
    else if bytes_eq word (codes "wipe") then makes₂ op.Wipe (next_numbers fields)
    else Err code.Op

-- how many numbers an operation has
abbrev pub numbers_in : Op → ℕ
numbers_in (op.Put key val) = 2
numbers_in (op.Del key) = 1
numbers_in (op.Add key val) = 2
numbers_in (op.Wipe lo hi) = 2

-- the query of a record
unfoldable pub query_of : Fields → Result ServeQuery Code
query_of r =
    if bytes_eq (field r 2) (codes "get") then makes₁ query.Get (query_number r)
    else if bytes_eq (field r 2) (codes "sum") then makes₂ query.Sum (query_numbers r)
    else if bytes_eq (field r 2) (codes "rank") then makes₁ query.Rank (query_number r)
    else if bytes_eq (field r 2) (codes "size") then makes₀ query.Size (no_query_number r)
    else Err code.Op
