-- The content types that have a name (docs/FORMATS.md, "Lines for people").
use Rattle.std.specs.Prelude.{ℕ, List, [], ◌∷◌, codes, ◌==◌, if◌then◌else◌, None, Some}
use Rattle.std.specs.declared.option.Option.{Option}
use Rattle.std.specs.Str.{bytes_eq}

-- Each content type with the bytes of its name, in the order of the numbers.
abbrev pub type_names : List (ℕ × List ℕ)
type_names =
    (0, codes "Hello")
    ∷ (1000, codes "CreateIdentity") ∷ (1001, codes "UpdateIdentity") ∷ (1002, codes "DeleteIdentity")
    ∷ (1010, codes "CreateService") ∷ (1011, codes "UpdateService") ∷ (1012, codes "DeleteService")
    ∷ (1020, codes "CreateRouter") ∷ (1021, codes "UpdateRouter") ∷ (1022, codes "DeleteRouter")
    ∷ (1023, codes "ConnectRouter") ∷ (1024, codes "DisconnectRouter")
    ∷ (1100, codes "CreateServicePolicy") ∷ (1101, codes "UpdateServicePolicy") ∷ (1102, codes "DeleteServicePolicy")
    ∷ (1110, codes "CreateEdgeRouterPolicy") ∷ (1111, codes "UpdateEdgeRouterPolicy") ∷ (1112, codes "DeleteEdgeRouterPolicy")
    ∷ (1120, codes "CreateServiceEdgeRouterPolicy") ∷ (1121, codes "UpdateServiceEdgeRouterPolicy") ∷ (1122, codes "DeleteServiceEdgeRouterPolicy")
    ∷ (1200, codes "CreateLink") ∷ (1201, codes "SetLinkCost") ∷ (1202, codes "ReportLatency")
    ∷ (1203, codes "ReportState") ∷ (1204, codes "DeleteLink") ∷ (1210, codes "SetLeastRouterCost")
    ∷ (1300, codes "CreateTerminator") ∷ (1301, codes "UpdateTerminator") ∷ (1302, codes "DeleteTerminator")
    ∷ (1400, codes "CreateCircuit") ∷ (1401, codes "DeleteCircuit") ∷ (1402, codes "Explain") ∷ (1403, codes "VerifyRoute")
    ∷ (1500, codes "ShowGrants") ∷ (1501, codes "ListServices") ∷ (1502, codes "ShowCounts") ∷ (1503, codes "ShowCircuit")
    ∷ (1510, codes "Compact")
    ∷ (1600, codes "SetIntercept") ∷ (1601, codes "ClearIntercept") ∷ (1610, codes "Pick") ∷ (1611, codes "ListClashes") ∷ []

-- The number that a name has in some rows.
abbrev pub number_among : List (ℕ × List ℕ) → List ℕ → Option ℕ
number_among [] name = None
number_among (row ∷ rows) name = if bytes_eq row.1 name then Some row.0 else number_among rows name

-- The name that a number has in some rows.
abbrev pub name_among : List (ℕ × List ℕ) → ℕ → Option (List ℕ)
name_among [] number = None
name_among (row ∷ rows) number = if row.0 == number then Some row.1 else name_among rows number

-- The content type of a name, if one has it.
abbrev pub number_named : List ℕ → Option ℕ
number_named name = number_among type_names name

-- The name of a content type, if it has one.
abbrev pub name_numbered : ℕ → Option (List ℕ)
name_numbered number = name_among type_names number
