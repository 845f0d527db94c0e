use Rattle.nbt_c.proofs.Common.{◌≡◌, List, [], Some, None, length, refl, sym, ap, subst, ◌∙◌, ◌++◌, slice_get, slice_get_past, slice_get_read, NameValue, Lease, TableValue, TellsRow}
use Rattle.nbt_c.specs.Serving as is
use Rattle.nbt_c.proofs.serving.report_row.Goals as goal

-- what is lent of a list that was empty, and to which a table's rows were appended
lent : {listed appended begun : List (NameValue × Lease)} {table of : TableValue} → listed ≡ appended → appended ≡ begun ++ table.rows → begun ≡ [] → table ≡ of → listed ≡ of.rows
lent {table = table} is more empty same = is ∙ more ∙ ap (λ (rows : List (NameValue × Lease)). rows ++ table.rows) empty ∙ ap (λ (t : TableValue). t.rows) same

pub returns-in_default : goal.returns-in_default
returns-in_default c = (None, subst (λ n. TellsRow c.args.server.now c.args.which n None) (sym c.number.ensures) is.TellsRow.lacks_room, refl, refl)

pub returns-in-Some : goal.returns-in-Some
returns-in-Some c =
    let row = c.in-Some.row.now in let at = c.in-Some.ensures.lookup in (
      Some row,
      is.TellsRow.tells_row row (subst (λ (rows : List (NameValue × Lease)). slice_get rows c.args.which ≡ Some row) (lent c.deref.ensures.value c.in-Ok.ensures c.new-rows.ensures.items c.table.ensures.table)
          (slice_get_read c.deref.result.now (length c.deref.result.now) c.args.which row refl at.3.0 at.1)),
      c.of.ensures,
      c.of-in-Some.ensures,
    )

pub returns : goal.returns
returns c = (
  None,
  is.TellsRow.tells_no_row (subst (λ (rows : List (NameValue × Lease)). slice_get rows c.args.which ≡ None) (lent c.deref.ensures.value c.in-Ok.ensures c.new-rows.ensures.items c.table.ensures.table)
      (slice_get_past c.deref.result.now c.args.which c.in-None.ensures.lookup.3)),
  refl,
  refl,
)
