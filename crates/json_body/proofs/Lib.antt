mod RequiredFields
mod KeyLaws
mod ListLaws
