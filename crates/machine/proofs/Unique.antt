-- A state has only one table.
use Rattle.std.proofs.Common.{◌≡◌, ℕ, Bool, true, false, List, [], ◌∷◌, length, Option, Some, None, refl, sym, ◌∙◌}
use Rattle.std.proofs.Common.{ap, subst, arith, slice_get, slice_index, suc}
use Rattle.image_reading.specs.declared.desc.Desc.{Desc}
use Rattle.image_reading.specs.Image.{IsIntact}
use Rattle.image_reading.proofs.Descriptions.{intact-unique}
use Rattle.machine.specs.States.{entry_of}
use Rattle.machine.specs.Device.{DeviceState, Wanted}
use Rattle.reports.specs.declared.table.Table.{Table}
use Rattle.reports.specs.declared.table.Image.{Image}
use Rattle.reports.specs.declared.table.Entry.{Entry}
use Rattle.reports.specs.declared.table.Request.{Request}
use Rattle.reports.specs.Combination.{IsGreatest}
use Rattle.reports.specs.declared.report.Report.{Report}
use Rattle.reports.specs.Rightness.{taken_in}
use Rattle.machine.specs.Boots.{IsEntryOf, IsReported, IsRequestOf, IsRowOf, IsTableOf}
use Rattle.reports.specs.declared.table.Request.TheVariants as request

pub one_description : (bytes : List ℕ) (a b : Desc) → IsIntact bytes a → IsIntact bytes b → a ≡ b
one_description bytes a b first second = intact-unique bytes a b first second

one_entry : (held : Option (List ℕ)) (a b : Entry) → IsEntryOf held a → IsEntryOf held b → a ≡ b
one_entry None a b first second = absurd first
one_entry (Some bytes) a b (d, image, is) (e, also, same) = sym is ∙ ap entry_of
    (one_description bytes d e image also) ∙ same

no_entry : (held : Option (List ℕ)) (entry : Entry) → held ≡ None → IsEntryOf held entry → ⊥
no_entry None entry e is = is
no_entry (Some bytes) entry e is = cc

one_request : (wanted : Option Wanted) (a b : Request) → IsRequestOf wanted a → IsRequestOf wanted b → a ≡ b
one_request None a b first second = first ∙ sym second
one_request (Some w) request.None b first second = absurd first
one_request (Some w) a request.None first second = absurd second
one_request (Some w) request.Damaged request.Damaged first second = refl
one_request (Some w) request.Damaged (request.Entry entry) first second = absurd (no_entry w.bytes entry first second)
one_request (Some w) (request.Entry entry) request.Damaged first second = absurd (no_entry w.bytes entry second first)
one_request (Some w) (request.Entry a) (request.Entry b) first second = ap (λ e. request.Entry e)
    (one_entry w.bytes a b first second)

row_of_parts : (a b : Image) → a.running ≡ b.running → a.request ≡ b.request → a.floor ≡ b.floor → a ≡ b
row_of_parts a b runs asks least =
    let row : Entry → Request → ℕ → Image = λ r q f. record { running = r; request = q; floor = f } in
    ap (λ r. row r a.request a.floor) runs ∙ ap (λ q. row b.running q a.floor) asks ∙ ap
    (λ f. row b.running b.request f) least

one_row : (runs : Option (List ℕ)) (wanted : Option Wanted) (least : ℕ) (a b : Image)
    → IsRowOf runs wanted least a → IsRowOf runs wanted least b → a ≡ b
one_row runs wanted least a b first second = row_of_parts a b
    (one_entry runs a.running b.running first.running second.running)
    (one_request wanted a.request b.request first.request second.request)
    (first.floor ∙ sym second.floor)

same_suc : (m n : ℕ) → suc m ≡ suc n → m ≡ n
same_suc m n e = omega arith

-- Lists of one length are equal if they agree at each place.
same_lists : {X : Type 0} (xs ys : List X) → length xs ≡ length ys
    → ((k : ℕ) (x y : X) → slice_get xs k ≡ Some x → slice_get ys k ≡ Some y → x ≡ y) → xs ≡ ys
same_lists [] [] long each = refl
same_lists [] (y ∷ ys) long each = cc
same_lists (x ∷ xs) [] long each = cc
same_lists (x ∷ xs) (y ∷ ys) long each =
    let head = each 0 x y refl refl in
    let tail = same_lists xs ys (same_suc (length xs) (length ys) long) (λ k a b at also. each (suc k) a b at also) in
    cc

pub one_table : (s : DeviceState) (a b : Table) → IsTableOf s a → IsTableOf s b → a ≡ b
one_table s a b first second =
    let rows : a.images.items ≡ b.images.items = same_lists a.images.items b.images.items
    (first.count ∙ sym second.count)
    (λ k x y at also. one_row (s.running k) (s.request k) (slice_index s.floors k) x y (first.rows k x at)
    (second.rows k y also)) in
    let table : List Image → Table = λ l. record { images = record { items = l } } in
    ap table rows

-- Two tests are equal if each implies the other.
both : (a b : Bool) → (a ≡ true → b ≡ true) → (b ≡ true → a ≡ true) → a ≡ b
both true b to from = sym (to refl)
both false true to from = from refl
both false false to from = refl

pub one_greatest : (table : Table) (a b : ℕ → Bool) → IsGreatest table a → IsGreatest table b → (i : ℕ) → a i ≡ b i
one_greatest table a b first second i = both (a i) (b i) (λ e. second.contains a first.valid i e)
    (λ e. first.contains b second.valid i e)

-- Reports of one state take the same set.
pub one_set : (s : DeviceState) (first second : Table) (report other : Report) → IsReported s first report
    → IsReported s second other → (j : ℕ) → taken_in report j ≡ taken_in other j
one_set s first second report other a b = one_greatest second (taken_in report) (taken_in other)
    (subst (λ t. IsGreatest t (taken_in report)) (one_table s first second a.rows b.rows) a.greatest) b.greatest
