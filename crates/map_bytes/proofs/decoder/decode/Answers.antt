use Rattle.std.proofs.Common.{◌≡◌, ℕ, List, length, sym, subst, ap, ◌∙◌, arith}
use Rattle.std.specs.Cmp.{nat_cmp_total}
use Rattle.std.specs.Ordering.{nat_cmp}
use Rattle.map_model.specs.Operations.{build}
use Rattle.map_model.proofs.NatKeys.{nat_exact}
use Rattle.map_model.proofs.Operations.{build-increasing}
use Rattle.entry_bytes.specs.Format.{IsMap, encoding}
use Rattle.map_bytes.proofs.decoder.decode.Goals as goal

-- entries with rising keys make the map of themselves
made_is : (map lent entries : List (ℕ × ℕ)) → IsMap entries → map ≡ build nat_cmp lent → lent ≡ entries → map ≡ entries
made_is map lent entries lawful made lent_is = made ∙ ap (build nat_cmp) lent_is ∙ build-increasing nat_cmp_total nat_exact entries lawful.increasing

pub returns-clause-encoding : goal.returns-clause-encoding
returns-clause-encoding c =
    let is = made_is c.in_ok-map.map c.deref.result.now c.in_ok-entries.entries.items c.in_ok-entries.ensures.lawful c.in_ok-map.ensures c.deref.ensures.value in
    c.in_ok-entries.ensures.encoding ∙ ap encoding (sym is)

pub returns-clause-lawful : goal.returns-clause-lawful
returns-clause-lawful c =
    let is = made_is c.in_ok-map.map c.deref.result.now c.in_ok-entries.entries.items c.in_ok-entries.ensures.lawful c.in_ok-map.ensures c.deref.ensures.value in
    subst (λ (m : List (ℕ × ℕ)). IsMap m) (sym is) c.in_ok-entries.ensures.lawful

pub returns-clause-small : goal.returns-clause-small
returns-clause-small c =
    let is = made_is c.in_ok-map.map c.deref.result.now c.in_ok-entries.entries.items c.in_ok-entries.ensures.lawful c.in_ok-map.ensures c.deref.ensures.value in
    omega (arith, ap length is, c.in_ok-entries.ensures.small)

pub returns-clause-accepts : goal.returns-clause-accepts
returns-clause-accepts c = λ m lawful whole.
    made_is c.in_ok-map.map c.deref.result.now c.in_ok-entries.entries.items c.in_ok-entries.ensures.lawful c.in_ok-map.ensures c.deref.ensures.value
    ∙ c.in_ok-entries.ensures.accepts m lawful whole
