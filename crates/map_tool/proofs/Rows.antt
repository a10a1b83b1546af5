-- Commands in a row, cut in two, and puts into one register and look-ups in one.
use Rattle.std.proofs.Common.{◌≡◌, ℕ, zero, suc, ◌<◌, List, [], ◌∷◌, ◌++◌, length, map, refl, sym, ap, ap₂, ◌∙◌, append_assoc, arith}
use Rattle.std.specs.Prelude.{codes}
use Rattle.std.specs.List.{AllByRecursion}
use Rattle.std.specs.Ordering.{nat_cmp}
use Rattle.std.proofs.lemmas.List.{get_or-set_same, length-set, set-get_or}
use Rattle.map_model.specs.Entries.{lookup, set}
use Rattle.map_model.specs.Operations.{after, puts}
use Rattle.map_records.specs.declared.commands.MapCommand.{MapCommand}
use Rattle.map_tool.specs.Effects.{found_line, map_after, map_reply}
use Rattle.map_tool.specs.Registers.{Registers, register, with_register}
use Rattle.map_tool.specs.Runs.{after_all, found_lines, gets_from, ok_lines, puts_into}
use Rattle.put_runs.specs.Sizes.{sizes_after}
use Rattle.script.specs.Lines.{line_of}
use Rattle.script.specs.Replies.{replies}

replies-append : (a b : List MapCommand) (rs : Registers) → replies map_reply map_after rs (a ++ b) ≡ replies map_reply map_after rs a ++ replies map_reply map_after (after_all rs a) b
replies-append [] b rs = refl
replies-append (c ∷ a) b rs = ap (λ rest. map_reply rs c ++ rest) (replies-append a b (map_after rs c)) ∙ sym (append_assoc (map_reply rs c) _ _)

pub All-back : {X : Type 0} (P : X → Type 0) (a b : List X) → AllByRecursion P (a ++ b) → AllByRecursion P b
All-back P [] b all = all
All-back P (x ∷ a) b all = All-back P a b all.1

-- the replies so far, with those of a run and those that are left
pub replies-next_run : (whole out text : List ℕ) (rs next : Registers) (rest run later : List MapCommand) → run ++ later ≡ rest → whole ≡ out ++ replies map_reply map_after rs rest → text ≡ out ++ replies map_reply map_after rs run → next ≡ after_all rs run → whole ≡ text ++ replies map_reply map_after next later
replies-next_run whole out text rs next rest run later parts so_far said now =
    so_far
    ∙ ap (λ cs. out ++ replies map_reply map_after rs cs) (sym parts)
    ∙ ap (λ t. out ++ t) (replies-append run later rs)
    ∙ sym (append_assoc out (replies map_reply map_after rs run) _)
    ∙ ap₂ (λ t n. t ++ replies map_reply map_after n later) (sym said) (sym now)

-- ---- puts into one register

pub set-set : (rs : Registers) (d : ℕ) (m n : List (ℕ × ℕ)) → with_register (with_register rs d m) d n ≡ with_register rs d n
set-set [] zero m n = refl
set-set [] (suc d) m n = refl
set-set (r ∷ rs) zero m n = refl
set-set (r ∷ rs) (suc d) m n = ap (λ rest. r ∷ rest) (set-set rs d m n)

-- the register that puts leave
pub after_all-puts : (entries : List (ℕ × ℕ)) (rs : Registers) (d : ℕ) → d < length rs → after_all rs (puts_into d entries) ≡ with_register rs d (after nat_cmp (register rs d) (puts entries))
after_all-puts [] rs d h = sym (set-get_or rs d [])
after_all-puts (e ∷ entries) rs d h =
    let m = set nat_cmp (register rs d) e.0 e.1 in
    let same : register (with_register rs d m) d ≡ m = get_or-set_same rs d m [] h in
    let len : length (with_register rs d m) ≡ length rs = length-set rs d m in
    after_all-puts entries (with_register rs d m) d (omega (arith, len))
    ∙ set-set rs d m (after nat_cmp (register (with_register rs d m) d) (puts entries))
    ∙ ap (λ n. with_register rs d (after nat_cmp n (puts entries))) same

-- the replies tell the sizes
pub replies-puts : (entries : List (ℕ × ℕ)) (rs : Registers) (d : ℕ) → d < length rs → replies map_reply map_after rs (puts_into d entries) ≡ ok_lines (sizes_after (register rs d) entries)
replies-puts [] rs d h = refl
replies-puts (e ∷ entries) rs d h =
    let m = set nat_cmp (register rs d) e.0 e.1 in
    let same : register (with_register rs d m) d ≡ m = get_or-set_same rs d m [] h in
    let len : length (with_register rs d m) ≡ length rs = length-set rs d m in
    ap (λ rest. line_of (codes "ok") (length m ∷ []) ++ rest) (replies-puts entries (with_register rs d m) d (omega (arith, len)) ∙ ap (λ n. ok_lines (sizes_after n entries)) same)

-- ---- look-ups in one register

pub after_all_gets : (keys : List ℕ) (rs : Registers) (m : ℕ) → rs ≡ after_all rs (gets_from m keys)
after_all_gets [] rs m = refl
after_all_gets (k ∷ keys) rs m = after_all_gets keys rs m

pub replies_gets : (keys : List ℕ) (rs : Registers) (m : ℕ) → replies map_reply map_after rs (gets_from m keys) ≡ found_lines (map (λ k. lookup nat_cmp (register rs m) k) keys)
replies_gets [] rs m = refl
replies_gets (k ∷ keys) rs m = ap (λ rest. found_line (lookup nat_cmp (register rs m) k) ++ rest) (replies_gets keys rs m)
