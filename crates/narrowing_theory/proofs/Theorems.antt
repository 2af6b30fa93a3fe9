-- What is proved, by the names of specs/Promises. Nothing else needs to be read of proofs/. Assumes nothing.
use Rattle.cells.proofs.AllowLaws as allow-laws
use Rattle.bound_theory.specs.Tree.{opening_limit, bound}
use Rattle.bound_theory.proofs.PromiseLaws as promise-laws
use Rattle.narrowing_theory.specs.Promises.{RefinesWhere, BoundMonotone, LargerBudget, BoundIsRun, MergedIsRun}
use Rattle.narrowing_theory.proofs.BoundLaws as bound-laws
use Rattle.narrowing_theory.proofs.MergedLaws as merged-laws

pub refines-where : RefinesWhere
refines-where = allow-laws.refines-where

pub bound-monotone : BoundMonotone
unfolding bound
bound-monotone c budget = promise-laws.monotone c opening_limit budget

pub larger-budget : LargerBudget
larger-budget = bound-laws.larger-budget

pub bound-is-run : BoundIsRun
bound-is-run = bound-laws.bound-is-run

pub merged-is-run : MergedIsRun
merged-is-run = merged-laws.merged-is-run
