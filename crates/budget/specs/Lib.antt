-- What a write of the workload's input costs.
pub mod BudgetClaim
