-- A manifest's row is read as this manifest.
use Rattle.std.proofs.Common.{◌≡◌, ℕ, suc, List, [], ◌∷◌, Some, length, map, slice_get, take, refl, rules}
use Rattle.std.proofs.lemmas.Option.{none-some, same_Some}
use Rattle.manifest.specs.declared.manifest.Component.{Component}
use Rattle.manifest.specs.declared.rows.ComponentRow.{ComponentRow}
use Rattle.manifest.specs.Rows.{component_in, component_row}

-- A component's row is read as this component.
component_in_row : (component : Component) → component_in (component_row component) ≡ component
component_in_row component = search rules

-- Rows of components, and others after them, are read as these components.
pub components_in_rows : (components : List Component) (rows : List ComponentRow) → ((k : ℕ) (component : Component) → slice_get components k ≡ Some component → slice_get rows k ≡ Some (component_row component)) → components ≡ map component_in (take (length components) rows)
components_in_rows [] rows each = refl
components_in_rows (component ∷ components) [] each = absurd (none-some (component_row component) (each 0 component refl))
components_in_rows (component ∷ components) (row ∷ rows) each =
    let head : row ≡ component_row component = same_Some row (component_row component) (each 0 component refl) in
    let tail : components ≡ map component_in (take (length components) rows) = components_in_rows components rows (λ k. each (suc k)) in
    rw (head, component_in_row component, ← tail)
