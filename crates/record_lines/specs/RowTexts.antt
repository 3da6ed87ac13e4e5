-- What rows say of records, and the lines of rows (docs/FORMATS.md, "Lines of records").
use Rattle.std.specs.Prelude.{ℕ, ◌==◌, ◌&&◌, ◌||◌, Bool, true, false, cond, List, [], ◌∷◌, decimal, None, Some, option_and_then}
use Rattle.std.specs.declared.option.Option.{Option}
use Rattle.std.specs.Option.{option_map_or, option_or, unwrap_or}
use Rattle.std.specs.Str.{bytes_eq}
use Rattle.ctrl_model.specs.declared.kinds.Kind.{Kind}
use Rattle.ctrl_model.specs.declared.kinds.Kind.TheVariants as kind
use Rattle.ctrl_model.specs.State.{State}
use Rattle.ctrl_model.specs.Tables.{has_names, is_entity_kind, is_policy_kind, record_name}
use Rattle.row_codec.specs.declared.rows.Row.{Row}
use Rattle.row_codec.specs.declared.rows.Row.TheVariants as row
use Rattle.row_codec.specs.RowKeys.{kind_number}
use Rattle.state_building.specs.RowForms.{by_row}
use Rattle.record_lines.specs.declared.listing.Listed.{Listed}
use Rattle.record_lines.specs.declared.listing.Listed.TheVariants as listed
use Rattle.record_lines.specs.RecordLines.{intercept_line, line_of}
use Rattle.record_lines.specs.RecordNames.{name_of}

-- Whether two kinds are one.
abbrev pub same_kind : Kind → Kind → Bool
same_kind j k = kind_number j == kind_number k

-- The kind, the number and the name of the record that a row is, if it is one.
abbrev pub entry_in : Row → Option (Kind × ℕ × List ℕ)
entry_in x = by_row (record {
  next = λ k n. None;
  setting = λ cost. None;
  one = λ k n r. Some (k, n, record_name k r);
  count = λ r a b c. None;
  intercept = λ n i. None;
  serial = λ n. None;
}) x

-- The name that an entry says of the record of a kind and a number.
abbrev pub name_in : Kind → ℕ → Kind × ℕ × List ℕ → Option (List ℕ)
name_in k n e = cond (same_kind e.0 k && e.1 == n) (Some e.2) None

-- The name that a row says of the record of a kind and a number.
abbrev pub name_said : Kind → ℕ → Row → Option (List ℕ)
name_said k n x = option_and_then (name_in k n) (entry_in x)

-- The first name that some rows say of it, none where they say none.
abbrev pub name_among : List Row → Kind → ℕ → List ℕ
name_among [] k n = []
name_among (x ∷ xs) k n = unwrap_or (name_said k n x) (name_among xs k n)

-- The two routers that a row says of the link of a number.
abbrev pub ends_said : ℕ → Row → Option (ℕ × ℕ)
ends_said n (row.Link m name a b cost latency_a latency_b up) = cond (m.0 == n) (Some (a.0, b.0)) None
ends_said n x = None

-- The first two that some rows say of it.
abbrev pub ends_among : List Row → ℕ → Option (ℕ × ℕ)
ends_among [] n = None
ends_among (x ∷ xs) n = option_or (ends_said n x) (ends_among xs n)

-- The router behind a link with two ends, seen from a router; 0 where there is no link or it does not end there.
abbrev pub behind : ℕ → Option (ℕ × ℕ) → ℕ
behind v None = 0
behind v (Some e) = cond (e.0 == v) e.1 (cond (e.1 == v) e.0 0)

-- Whether a row is a record whose kind passes a test.
abbrev pub is_record : (Kind → Bool) → Row → Bool
is_record test x = option_map_or (λ (e : Kind × ℕ × List ℕ). test e.0) (entry_in x) false

-- Whether a row says an intercept.
abbrev pub says_intercept : Row → Bool
says_intercept x = by_row (record {
  next = λ k n. false;
  setting = λ cost. false;
  one = λ k n r. false;
  count = λ r a b c. false;
  intercept = λ n i. true;
  serial = λ n. false;
}) x

-- Whether a row is of what is listed.
abbrev pub is_of : Listed → Row → Bool
is_of (listed.Records k) x = is_record (λ j. same_kind j k) x
is_of listed.Intercepts x = says_intercept x

-- Whether a row is a record that a word asks for.
abbrev pub is_record_asked : List ℕ → Row → Bool
is_record_asked word x = option_map_or (λ (e : Kind × ℕ × List ℕ). bytes_eq (cond (has_names e.0) e.2 (decimal e.1)) word) (entry_in x) false

-- Whether a row says an intercept that a word asks for.
abbrev pub is_intercept_asked : State → List ℕ → Row → Bool
is_intercept_asked s word x = by_row (record {
  next = λ k n. false;
  setting = λ cost. false;
  one = λ k n r. false;
  count = λ r a b c. false;
  intercept = λ n i. bytes_eq (name_of kind.Service s n) word;
  serial = λ n. false;
}) x

-- Whether a row is one of what is listed, and a word asks for it.
abbrev pub is_asked : Listed → List ℕ → State → Row → Bool
is_asked (listed.Records k) word s x = is_record (λ j. same_kind j k) x && is_record_asked word x
is_asked listed.Intercepts word s x = is_intercept_asked s word x

-- The line of the record or of the intercept that a row is; nothing where it is neither.
abbrev pub row_line : State → Row → List ℕ
row_line s x = by_row (record {
  next = λ k n. [];
  setting = λ cost. [];
  one = λ k n r. line_of k s (n, r);
  count = λ r a b c. [];
  intercept = λ n i. intercept_line s n i;
  serial = λ n. [];
}) x

-- The line of a row that passes a test.
abbrev pub line_where : (Row → Bool) → State → Row → List ℕ
line_where test s x = cond (test x) (row_line s x) []

-- Whether a row is an identity, a service or a router.
abbrev pub is_entity : Row → Bool
is_entity x = is_record is_entity_kind x

-- Whether a row is a policy.
abbrev pub is_policy : Row → Bool
is_policy x = is_record is_policy_kind x

-- Whether a row is a link or a terminator.
abbrev pub is_way : Row → Bool
is_way x = is_record (λ k. same_kind k kind.Link || same_kind k kind.Terminator) x

-- Whether a row is a circuit or an intercept.
abbrev pub is_use : Row → Bool
is_use x = is_record (λ k. same_kind k kind.Circuit) x || says_intercept x
