-- The numbers of a form.
use Rattle.std.proofs.Common.{◌≡◌, ◌∙◌, ℕ, List, length, sym, ap}
use Rattle.std.proofs.lemmas.List.{length-map}
use Rattle.run_text.specs.Forms.{Told, HasForm}

pub form_count : (places numbers order text : List ℕ) → HasForm places numbers order text → length numbers ≡ length places
form_count places numbers order text form =
    sym (ap length form.numbers_are) ∙ length-map form.told (λ (t : Told). t.number) ∙ sym (length-map form.told (λ (t : Told). t.place)) ∙ ap length form.places_are
