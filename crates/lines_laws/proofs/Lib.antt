mod Walking
mod Reports
mod Collections
mod Edits
mod Banks
mod Lists
