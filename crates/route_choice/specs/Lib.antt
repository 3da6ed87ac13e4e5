pub mod RouteChoices
