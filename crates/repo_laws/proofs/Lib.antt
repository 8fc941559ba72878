mod StoredRuns
mod FedRuns
