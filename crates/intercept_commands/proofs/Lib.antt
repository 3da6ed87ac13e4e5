mod PlanLaws
mod RowLaws
