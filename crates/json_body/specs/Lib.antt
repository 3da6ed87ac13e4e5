pub mod FieldKinds
